-- `sph::first_bad_line` meets its contract: what is left of the search from the line at `start` on is the whole search.
-- Assumes nothing.
use native.Mathlib.Omega.{arith}
use Rattle.sph.proofs.BadLines.{line-bad, line-good, reached-first, reached-bad, reached_end, reached-next}
use Rattle.sph.proofs.first_bad_line.Goals as goal

pub loop-start-init : goal.loop-start-init
loop-start-init c = reached-first _ _ _ (omega arith)

pub returns : goal.returns
returns c = reached_end _ _ _ _ c.loop-start.invariant (omega arith)

pub returns-in_default : goal.returns-in_default
returns-in_default c = reached-bad _ _ _ _ c.loop-start.invariant (omega arith) (line-bad _ _ _ c.in_default.ensures)

pub loop-start-smaller : goal.loop-start-smaller
loop-start-smaller c = omega (arith, (line-good _ _ _ _ c.in-Some.ensures).on)

pub loop-start-preserved : goal.loop-start-preserved
loop-start-preserved c = reached-next _ _ _ _ c.loop-start.invariant _ (line-good _ _ _ _ c.in-Some.ensures)
