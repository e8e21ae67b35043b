-- `ambrothel::ambrothel_column` meets its contract.
-- Assumes nothing.
use native.Mathlib.Omega.{arith}
use Rattle.ambrothel.proofs.Columns.{column_short, column_written}
use Rattle.ambrothel.proofs.ambrothel_column.Goals as goal

pub returns-then-words-lt3 : goal.returns-then-words-lt3
returns-then-words-lt3 c = column_short _ _ _ (omega arith)

pub returns : goal.returns
returns c = column_written _ _ _ (omega arith) c.put_column.ensures c.put_verdict.ensures
