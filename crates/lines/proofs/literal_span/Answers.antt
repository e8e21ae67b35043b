-- `lines::literal_span` meets its contract: what is left of the span from `i` on decides the whole.
-- Assumes nothing.
use mathlib.Core.Path.{◌∙◌}
use native.Mathlib.Omega.{arith}
use Rattle.lines.proofs.Spans.{span_bad, span_good, span_end}
use Rattle.lines.proofs.literal_span.Goals as goal

pub returns-then-p-i : goal.returns-then-p-i
returns-then-p-i c = rw c.loop-i.invariant (span_bad _ _ _ _ (omega arith) (omega arith) c.if-p-i.true)

pub loop-i-preserved : goal.loop-i-preserved
loop-i-preserved c = c.loop-i.invariant ∙ span_good _ _ _ _ (omega arith) (omega arith) c.if-p-i.false

pub returns : goal.returns
returns c = rw c.loop-i.invariant (span_end _ _ _ _ (omega arith) (omega arith))
