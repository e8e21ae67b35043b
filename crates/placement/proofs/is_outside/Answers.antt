-- `placement::is_outside` meets its contract.
-- Assumes nothing.
use Rattle.placement.proofs.Sets.{inside-empty, outside-headers, outside-size, outside_end}
use Rattle.placement.proofs.is_outside.Goals as goal

pub returns-then-size-eq0 : goal.returns-then-size-eq0
returns-then-size-eq0 c = inside-empty _ _ _ _ c.if-size-eq0.true

pub returns-then-offset-headers_end : goal.returns-then-offset-headers_end
returns-then-offset-headers_end c = outside-headers _ _ _ _ c.if-size-eq0.false c.if-offset-headers_end.true

pub returns-then-length-size : goal.returns-then-length-size
returns-then-length-size c = outside-size _ _ _ _ c.if-size-eq0.false c.if-offset-headers_end.false c.if-length-size.true

pub returns : goal.returns
returns c = outside_end _ _ _ _ c.if-size-eq0.false c.if-offset-headers_end.false c.if-length-size.false
