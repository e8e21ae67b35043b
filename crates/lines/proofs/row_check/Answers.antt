-- `lines::row_check` meets its contract: the literal bytes from the last value on, and the value.
-- Assumes nothing.
use mathlib.Core.Path.{◌∙◌}
use native.Mathlib.Omega.{arith}
use lib.ListN.{length}
use Rattle.lines.proofs.Spans.{handed}
use Rattle.lines.proofs.Rows.{fitting, width_fits_lem, row_before, row_value}
use Rattle.lines.proofs.row_check.Goals as goal

pub literal_span-requires : goal.literal_span-requires
literal_span-requires c =
    let k = fitting (length c.args.template.now) c.args.from c.args.row.now c.requires.0 in
    (k.before, omega (arith, k.inside), omega (arith, k.inside, c.requires.1))

pub returns-in_err-literal_span : goal.returns-in_err-literal_span
returns-in_err-literal_span c =
    handed _ _ c.from_residual.ensures ∙ row_before c.args.template.now c.args.from c.args.row.now c.requires.0 _ c.in_err-literal_span.ensures

pub overflow_add-value : goal.overflow_add-value
overflow_add-value c =
    omega (arith, c.requires.1, (fitting (length c.args.template.now) c.args.from c.args.row.now c.requires.0).inside)

pub value_check-requires : goal.value_check-requires
value_check-requires c =
    let k = fitting (length c.args.template.now) c.args.from c.args.row.now c.requires.0 in
    (omega arith, omega (arith, k.inside, c.requires.1), width_fits_lem c.args.template.now _ c.args.row.now c.requires.0)

pub returns : goal.returns
returns c =
    row_value c.args.template.now c.args.from c.args.row.now c.requires.0 _ c.in_ok-literal_span.ensures c.value_check.ensures

pub overflow_add-value-2 : goal.overflow_add-value-2
overflow_add-value-2 c =
    omega (arith, c.requires.1, (fitting (length c.args.template.now) c.args.from c.args.row.now c.requires.0).inside)
