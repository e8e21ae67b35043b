-- `sph::unquoted_end` meets its contract: byte 10, or a run behind which only byte 10 may follow.
-- Assumes nothing.
use native.Mathlib.Omega.{arith}
use Rattle.sph.proofs.LineEnds.{ends_here, unquoted_here, run_within, unquoted_run}
use Rattle.sph.proofs.unquoted_end.Goals as goal

pub returns-then-ends_at : goal.returns-then-ends_at
returns-then-ends_at c = let here = ends_here _ _ _ _ c.ends_at.ensures c.if-ends_at.true in unquoted_here _ _ _ here.0 (omega arith) here.1

pub last_end-requires : goal.last_end-requires
last_end-requires c = let k = run_within _ _ _ _ (omega arith) c.first_not_plain-end.ensures in (omega (arith, k.1), omega arith)

pub returns : goal.returns
returns c = unquoted_run _ _ _ _ (omega arith) (omega arith) c.first_not_plain-end.ensures c.last_end.ensures
