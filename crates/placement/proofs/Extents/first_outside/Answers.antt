-- `placement::Extents::first_outside` meets its contract: what is left of the search from `i` on is the whole search.
-- Assumes nothing.
use mathlib.Core.Path.{sym, ◌∙◌}
use native.Mathlib.Omega.{arith}
use Rattle.placement.proofs.Sets.{entry_outside, entry_inside, first_hit, first_miss, first-none, outside}
use Rattle.placement.proofs.Extents.first_outside.Goals as goal

pub returns-then-is_outside : goal.returns-then-is_outside
returns-then-is_outside c = (
  c.loop-i-test.true,
  outside _ _ _ _ _ _ (omega arith)
      (first_hit _ _ _ _ c.loop-i.invariant _ _ _ c.loop-i-test.true (entry_outside _ _ _ _ _ (sym c.is_outside.ensures ∙ c.if-is_outside.true))),
)

pub loop-i-preserved : goal.loop-i-preserved
loop-i-preserved c = first_miss _ _ _ _ c.loop-i.invariant c.loop-i-test.true (entry_inside _ _ _ _ _ (sym c.is_outside.ensures ∙ c.if-is_outside.false))

pub returns : goal.returns
returns c = outside _ _ _ _ _ _ (omega arith) (first-none _ _ _ _ c.loop-i.invariant _ _ _ c.loop-i-test.false)
