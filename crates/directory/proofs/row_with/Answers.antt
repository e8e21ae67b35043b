-- `directory::row_with` meets its contract.
-- Assumes nothing.
use borrow.Author.Tests.{lt-ltb, le-ltb}
use Rattle.directory.proofs.row_with.Goals as goal

pub returns-then-row-i : goal.returns-then-row-i
returns-then-row-i c = rw (lt-ltb c.args.row c.args.i c.if-row-i.true)

pub returns-then-passes : goal.returns-then-passes
returns-then-passes c = rw (le-ltb c.args.row c.args.i c.if-row-i.false, c.if-passes.true)

pub returns : goal.returns
returns c = rw (le-ltb c.args.row c.args.i c.if-row-i.false, c.if-passes.false)
