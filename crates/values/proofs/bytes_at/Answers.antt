-- `values::bytes_at` meets its contract: the bytes copied are the part.
-- Assumes nothing.
use mathlib.Core.Path.{◌∙◌}
use Rattle.writing.proofs.Puts.{lent_part}
use Rattle.values.proofs.bytes_at.Goals as goal

pub returns : goal.returns
returns g c = c.copy_from_slice.ensures.after ∙ lent_part c.args.p.now c.args.at g.row.N
