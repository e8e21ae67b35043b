-- `lines::lines_check` meets its contract: what is left of the rows, with what no value took, decides the whole table.
-- Assumes nothing.
use mathlib.Core.Path.{◌∙◌}
use native.Mathlib.Omega.{arith}
use Rattle.lines.proofs.Spans.{handed}
use Rattle.lines.proofs.Rows.{turn_start, turn_inside, turn_fits, turn_room, turn_bad, turn_good, turn_end}
use Rattle.lines.proofs.lines_check.Goals as goal

pub loop-row-init : goal.loop-row-init
loop-row-init c = turn_start _ _ _ c.requires.0

pub overflow_add-from : goal.overflow_add-from
overflow_add-from c = omega (arith, turn_room _ _ _ _ _ c.loop-row.invariant c.loop-row-test.true)

pub overflow_add-from-in-loop-row : goal.overflow_add-from-in-loop-row
overflow_add-from-in-loop-row c = omega (arith, turn_room _ _ _ _ _ c.loop-row.invariant c.loop-row-test.true)

pub row_check-requires : goal.row_check-requires
row_check-requires c = (turn_fits _ _ _ _ _ c.loop-row.invariant c.loop-row-test.true, c.requires.1)

pub returns-in_err-row_check : goal.returns-in_err-row_check
returns-in_err-row_check c = handed _ _ c.from_residual.ensures ∙ turn_bad _ _ _ _ _ c.loop-row.invariant c.loop-row-test.true c.in_err-row_check.ensures

pub loop-row-preserved : goal.loop-row-preserved
loop-row-preserved c = turn_good _ _ _ _ _ c.loop-row.invariant c.loop-row-test.true c.in_ok-row_check.ensures

pub literal_span-requires : goal.literal_span-requires
literal_span-requires c = (turn_inside _ _ _ _ _ c.loop-row.invariant c.loop-row-test.false, omega arith, c.requires.1)

pub returns : goal.returns
returns c = turn_end _ _ _ _ _ c.loop-row.invariant c.loop-row-test.false c.literal_span.ensures
