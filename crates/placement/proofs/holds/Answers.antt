-- `placement::holds` meets its contract.
-- Assumes nothing.
use Rattle.placement.proofs.Cover.{holds_later, holds_rest}
use Rattle.placement.proofs.holds.Goals as goal

pub returns-then-p-offset : goal.returns-then-p-offset
returns-then-p-offset c = holds_later _ _ _ c.if-p-offset.true

pub returns : goal.returns
returns c = holds_rest _ _ _ c.if-p-offset.false
