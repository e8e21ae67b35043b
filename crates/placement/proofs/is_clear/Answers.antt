-- `placement::is_clear` meets its contract.
-- Assumes nothing.
use Rattle.placement.proofs.Sets.{clear_empty, clear_below, clear_above}
use Rattle.placement.proofs.is_clear.Goals as goal

pub returns-then-size-eq0 : goal.returns-then-size-eq0
returns-then-size-eq0 c = λ _. clear_empty _ _ _ _ c.if-size-eq0.true

pub returns-then-offset-low : goal.returns-then-offset-low
returns-then-offset-low c = clear_below _ _ _ _ c.if-offset-low.true

pub returns : goal.returns
returns c = clear_above _ _ _ _ c.if-offset-high.false
