use Rattle.lines.proofs.Rows.{Turn}
use Rattle.lines.proofs.lines_check.Given as goal

abbrev pub invariant-loop-row : goal.invariant-loop-row
invariant-loop-row l = Turn l.template l.p l.rows l.from l.row-index
