-- `lines::dsd_check` meets its contract: a spare, or the lines of a DSD, whose ranges are as strict as its layout but at the type, which is tested by itself.
-- That the ranges are, and the rule of the table, are computed once, over the whole tables.
-- Assumes nothing.
use mathlib.Core.Path.{refl, sym, ap, ◌∙◌}
use Rattle.layout.specs.Bytes.{part}
use Rattle.layout.specs.Lines.{dsd}
use Rattle.layout.specs.Text.{layout, line_classes, value_classes, value_width, starts_of}
use Rattle.lines.specs.Ranges.{narrow, strict, strict_but}
use Rattle.lines.specs.Table.{checked, table_laid, rows_laid, row_laid, value_laid, table_fits, rows_fit, row_fits, width_fits, width_in}
use Rattle.lines.proofs.Headers.{bad-spare, bad-dsd}
use Rattle.lines.proofs.Ranges.{stand, dsd-laid}
use Rattle.lines.proofs.Rows.{table_place}
use Rattle.lines.proofs.dsd_check.Goals as goal

pub returns-then-p-eq32 : goal.returns-then-p-eq32
returns-then-p-eq32 c = bad-spare _ c.if-p-eq32.true c.spare_check.ensures

pub returns-then-laid_in : goal.returns-then-laid_in
unfolding narrow strict strict_but layout dsd line_classes value_classes
returns-then-laid_in c =
    bad-dsd _ c.if-p-eq32.false (dsd-laid _ _ _ _ tt (stand _ _ _ _ 0 280 _ c.laid_in.ensures c.if-laid_in.true) (sym c.is_type.ensures ∙ c.if-is_type.true))

pub lines_check-requires : goal.lines_check-requires
unfolding table_fits rows_fit row_fits width_fits
lines_check-requires c = (tt, c.requires)

pub returns : goal.returns
unfolding table_laid rows_laid row_laid value_laid layout dsd line_classes value_classes part starts_of width_in value_width
returns c = bad-dsd _ c.if-p-eq32.false (c.lines_check.ensures ∙ ap (checked 280) (table_place _ _ _ dsd (record { begin = refl; wide = refl; laid = refl })))
