-- `ambrothel::ambrothel_header_values` meets its contract.
-- Assumes nothing.
use Rattle.layout.specs.Answers.{verdict_is}
use Rattle.ambrothel.proofs.Rooms.{header_told}
use Rattle.ambrothel.proofs.ambrothel_header_values.Goals as goal

pub returns-in-Ok : goal.returns-in-Ok
unfolding verdict_is
returns-in-Ok c = let told = header_told _ _ c.in-Ok.ensures in rw (← told.1, ← told.0) c.put_whole_header.ensures

pub returns-in-Err : goal.returns-in-Err
unfolding verdict_is
returns-in-Err c = let told = header_told _ _ c.in-Err.ensures in rw (← told.1, ← told.0, ← c.none.ensures) c.put_whole_header-in-Err.ensures
