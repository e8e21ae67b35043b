-- `placement::share` meets its contract.
-- Assumes nothing.
use Rattle.placement.proofs.Sets.{no_first, no_second, from_below, from_above}
use Rattle.placement.proofs.share.Goals as goal

pub returns-then-size-eq0 : goal.returns-then-size-eq0
returns-then-size-eq0 c = no_first _ _ _ _ c.if-size-eq0.true

pub returns-then-lower_size-eq0 : goal.returns-then-lower_size-eq0
returns-then-lower_size-eq0 c = no_second _ _ _ _ c.if-lower_size-eq0.true

pub returns-then-offset-lower_offset : goal.returns-then-offset-lower_offset
returns-then-offset-lower_offset c = from_below _ _ _ _ c.if-size-eq0.false c.if-lower_size-eq0.false c.if-offset-lower_offset.true

pub returns : goal.returns
returns c = from_above _ _ _ _ c.if-size-eq0.false c.if-lower_size-eq0.false c.if-offset-lower_offset.false
