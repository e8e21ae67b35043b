-- `times::texts::two_digits` meets its contract.
-- Assumes nothing.
use mathlib.Core.Path.{◌∙◌}
use Rattle.times.proofs.Written.{in_pair}
use Rattle.times.proofs.texts.two_digits.Goals as goal

pub returns : goal.returns
returns c = c.to_le_bytes.ensures ∙ in_pair c.args.number c.requires
