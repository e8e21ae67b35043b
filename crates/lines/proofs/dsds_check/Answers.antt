-- `lines::dsds_check` meets its contract: what is left of the search from `i` on is the whole search.
-- Assumes nothing.
use mathlib.Core.Path.{sym, ◌∙◌}
use native.Mathlib.Omega.{arith}
use Rattle.layout.specs.Answers.{verdict_is}
use Rattle.lines.proofs.Headers.{dsd-inside, dsd-refused, dsd-accepted, left-refused, left-next, left_end}
use Rattle.lines.proofs.dsds_check.Goals as goal

pub overflow_add-at-in-Err : goal.overflow_add-at-in-Err
overflow_add-at-in-Err c = omega (arith, dsd-inside _ c.in-Err.ensures)

pub returns-in-Err : goal.returns-in-Err
unfolding verdict_is
returns-in-Err c = c.refuse.ensures.judged ∙ sym (left-refused _ _ _ c.loop-i.invariant (omega arith) (dsd-refused _ _ _ (omega arith) c.in-Err.ensures))

pub loop-i-preserved : goal.loop-i-preserved
loop-i-preserved c = left-next _ _ _ c.loop-i.invariant (omega arith) (dsd-accepted _ _ _ (omega arith) c.in_default.ensures)

pub returns : goal.returns
unfolding verdict_is
returns c = sym (left_end _ _ _ c.loop-i.invariant (omega arith))
