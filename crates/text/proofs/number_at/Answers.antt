-- `text::number_at` meets its contract: the sign, and the magnitude of the bytes behind it.
-- Assumes nothing.
use native.Mathlib.Omega.{arith}
use Rattle.text.proofs.Numbers.{number_is}
use Rattle.text.proofs.number_at.Goals as goal

pub returns : goal.returns
returns c = number_is _ _ _ _ (omega arith) (omega arith) c.magnitude_at-magnitude.ensures
