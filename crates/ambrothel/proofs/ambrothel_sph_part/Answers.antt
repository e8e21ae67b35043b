-- `ambrothel::ambrothel_sph_part` meets its contract.
-- Assumes nothing.
use Rattle.ambrothel.proofs.ambrothel_sph_part.Goals as goal

pub returns : goal.returns
returns c = rw (← c.sph_part.ensures) c.put_part.ensures
