-- `ambrothel::ambrothel_record_part` meets its contract.
-- Assumes nothing.
use Rattle.ambrothel.proofs.ambrothel_record_part.Goals as goal

pub returns : goal.returns
returns c = rw (← c.record_part.ensures) c.put_part.ensures
