-- `sph::ends_at` meets its contract.
-- Assumes nothing.
use native.Mathlib.Omega.{arith}
use Rattle.sph.proofs.LineEnds.{ends-none, ends_test}
use Rattle.sph.proofs.ends_at.Goals as goal

pub returns-then-to-at : goal.returns-then-to-at
returns-then-to-at c = let args = c.args in ends-none _ args.at args.to (omega arith)

pub returns : goal.returns
returns c = let args = c.args in ends_test _ args.at args.to (omega arith)
