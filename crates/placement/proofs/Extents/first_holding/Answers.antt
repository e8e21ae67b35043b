-- `placement::Extents::first_holding` meets its contract: what is left of the search from `i` on is the whole search.
-- Assumes nothing.
use mathlib.Core.Path.{sym, ◌∙◌}
use native.Mathlib.Omega.{arith}
use Rattle.layout.proofs.Laws.{find_hit, find-next, find_none}
use Rattle.placement.specs.Cover.{covers_at}
use Rattle.placement.proofs.Extents.first_holding.Goals as goal

pub returns-then-holds : goal.returns-then-holds
unfolding covers_at
returns-then-holds c = (c.loop-i-test.true, find_hit _ _ _ _ c.loop-i.invariant c.loop-i-test.true (sym c.holds.ensures ∙ c.if-holds.true))

pub loop-i-preserved : goal.loop-i-preserved
unfolding covers_at
loop-i-preserved c = find-next _ _ _ _ c.loop-i.invariant c.loop-i-test.true (sym c.holds.ensures ∙ c.if-holds.false)

pub returns : goal.returns
returns c = find_none _ _ _ _ c.loop-i.invariant (omega arith) c.loop-i-test.false
