-- `lines::spare_check` meets its contract: the blanks, then byte 10.
-- Assumes nothing.
use mathlib.Core.Path.{◌∙◌}
use Rattle.layout.specs.Lines.{spare_dsd}
use Rattle.layout.specs.Text.{layout, line_classes}
use Rattle.lines.proofs.Spans.{handed, blanks-checked}
use Rattle.lines.proofs.Values.{spare_blank, spare_ending, spare-whole}
use Rattle.lines.proofs.spare_check.Goals as goal

pub returns-in_err-end_or_bad : goal.returns-in_err-end_or_bad
unfolding layout line_classes spare_dsd
returns-in_err-end_or_bad c = handed _ _ c.from_residual.ensures ∙ spare_blank _ 279 (blanks-checked _ 0 279 279 _ _ c.in_err-end_or_bad.ensures c.first_not_blank.ensures)

pub returns-then-p-end-ne10 : goal.returns-then-p-end-ne10
unfolding layout line_classes spare_dsd
returns-then-p-end-ne10 c = spare_ending _ 279 (blanks-checked _ 0 279 279 _ _ c.in_ok-end_or_bad.ensures c.first_not_blank.ensures) c.if-p-end-ne10.true

pub returns : goal.returns
unfolding layout line_classes spare_dsd
returns c = spare-whole _ 279 (blanks-checked _ 0 279 279 _ _ c.in_ok-end_or_bad.ensures c.first_not_blank.ensures) c.if-p-end-ne10.false
