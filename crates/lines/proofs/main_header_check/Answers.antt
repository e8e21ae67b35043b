-- `lines::main_header_check` meets its contract. That the ranges are as strict as the header's layout, and the rule of its table, are computed once, over the
-- whole tables.
-- Assumes nothing.
use mathlib.Core.Path.{refl, sym, ap, ◌∙◌}
use Rattle.layout.specs.Bytes.{part}
use Rattle.layout.specs.Lines.{size_of_mph, mph}
use Rattle.layout.specs.Text.{layout, line_classes, value_classes, value_width, starts_of}
use Rattle.lines.specs.Ranges.{narrow, strict}
use Rattle.lines.specs.Table.{checked, refused_at, table_laid, rows_laid, row_laid, value_laid, table_fits, rows_fit, row_fits, width_fits, width_in}
use Rattle.lines.proofs.Spans.{checked-good}
use Rattle.lines.proofs.Headers.{header_answer}
use Rattle.lines.proofs.Ranges.{stand, stand_on, strict-laid}
use Rattle.lines.proofs.Rows.{table_place}
use Rattle.lines.proofs.main_header_check.Goals as goal

pub returns-then-laid_in-5 : goal.returns-then-laid_in-5
unfolding narrow strict layout mph line_classes value_classes refused_at
returns-then-laid_in-5 c =
    let to-256 = stand _ _ _ _ 0 256 _ c.laid_in.ensures c.if-laid_in.true in
    let to-512 = stand _ _ _ _ 256 512 _ c.laid_in-then-laid_in.ensures c.if-laid_in-2.true in
    let to-768 = stand _ _ _ _ 512 768 _ c.laid_in-then-laid_in-2.ensures c.if-laid_in-3.true in
    let to-1024 = stand _ _ _ _ 768 1024 _ c.laid_in-then-laid_in-3.ensures c.if-laid_in-4.true in
    let rest = stand _ _ _ _ 1024 1247 _ c.laid_in-then-laid_in-4.ensures c.if-laid_in-5.true in
    let all = stand_on to-256 (stand_on to-512 (stand_on to-768 (stand_on to-1024 rest))) in
    header_answer 3 128 (layout mph) _ 0 size_of_mph _ (checked-good _ _ (sym (strict-laid (layout mph) _ _ _ _ 0 tt all))) refl c.requires

pub lines_check-requires : goal.lines_check-requires
unfolding table_fits rows_fit row_fits width_fits
lines_check-requires c = (tt, c.requires)

pub returns : goal.returns
unfolding table_laid rows_laid row_laid value_laid layout mph line_classes value_classes part starts_of width_in value_width
returns c =
    let place = table_place _ _ _ mph (record { begin = refl; wide = refl; laid = refl }) in
    header_answer 3 128 (layout mph) _ 0 size_of_mph _ (c.lines_check.ensures ∙ ap (checked size_of_mph) place) refl c.requires
