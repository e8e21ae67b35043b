-- `lines::end_or_bad` meets its contract.
-- Assumes nothing.
use mathlib.Core.Path.{refl}
use Rattle.lines.proofs.Spans.{checked-good, checked-bad}
use Rattle.lines.proofs.end_or_bad.Goals as goal

pub returns-then-place-end : goal.returns-then-place-end
returns-then-place-end c = checked-bad _ _ refl c.if-place-end.true

pub returns : goal.returns
returns c = checked-good _ _ c.if-place-end.false
