-- `lines::whole_check` meets its contract: the sign, then the span of digits.
-- Assumes nothing.
use mathlib.Core.Path.{sym, ◌∙◌}
use Rattle.layout.specs.Text.{digit}
use Rattle.lines.proofs.Spans.{run-checked}
use Rattle.lines.proofs.Values.{whole-bad, whole-good}
use Rattle.lines.proofs.whole_check.Goals as goal

pub returns-then-not-is_sign : goal.returns-then-not-is_sign
returns-then-not-is_sign c = whole-bad _ _ _ _ (sym c.is_sign.ensures ∙ c.if-not-is_sign.true) c.requires.0

pub returns : goal.returns
returns c = whole-good _ _ _ _ (sym c.is_sign.ensures ∙ c.if-not-is_sign.false) (run-checked _ _ _ _ _ _ c.end_or_bad.ensures digit c.first_not_digit.ensures)
