-- `lines::decimal_check` meets its contract: the sign and the first digits, the point, the span of decimals.
-- Assumes nothing.
use mathlib.Core.Path.{◌∙◌}
use Rattle.layout.specs.Text.{digit}
use Rattle.lines.proofs.Spans.{handed, run-checked}
use Rattle.lines.proofs.Values.{decimal-bad, decimal_point, decimal-good}
use Rattle.lines.proofs.decimal_check.Goals as goal

pub returns-in_err-whole_check : goal.returns-in_err-whole_check
returns-in_err-whole_check c = handed _ _ c.from_residual.ensures ∙ decimal-bad _ _ _ _ _ c.requires.0 c.requires.1 c.in_err-whole_check.ensures

pub returns-then-p-point-ne46 : goal.returns-then-p-point-ne46
returns-then-p-point-ne46 c = decimal_point _ _ _ _ _ c.requires.0 c.requires.1 c.in_ok-whole_check.ensures c.if-p-point-ne46.true

pub returns : goal.returns
returns c =
    decimal-good _ _ _ _ _ c.requires.0 c.requires.1 c.in_ok-whole_check.ensures c.if-p-point-ne46.false (run-checked _ _ _ _ _ _ c.end_or_bad.ensures digit c.first_not_digit.ensures)
