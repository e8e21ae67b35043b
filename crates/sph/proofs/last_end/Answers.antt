-- `sph::last_end` meets its contract.
-- Assumes nothing.
use native.Mathlib.Omega.{arith}
use Rattle.sph.proofs.LineEnds.{ends_here, last_none, last_here}
use Rattle.sph.proofs.last_end.Goals as goal

pub returns-then-ends_at : goal.returns-then-ends_at
returns-then-ends_at c = let here = ends_here _ _ _ _ c.ends_at.ensures c.if-ends_at.true in last_here _ _ _ here.0 (omega arith) here.1

pub returns : goal.returns
returns c = last_none _ _ _ (omega arith) (omega arith) _ c.ends_at.ensures c.if-ends_at.false
