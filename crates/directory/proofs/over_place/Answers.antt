-- `directory::over_place` meets its contract.
-- Assumes nothing.
use borrow.Author.Tests.{le-leb, lt-leb}
use Rattle.directory.proofs.over_place.Goals as goal

pub returns-then-offset-le9223372036854775807 : goal.returns-then-offset-le9223372036854775807
returns-then-offset-le9223372036854775807 c = rw (le-leb c.args.offset 9223372036854775807 c.if-offset-le9223372036854775807.true)

pub returns : goal.returns
returns c = rw (lt-leb c.args.offset 9223372036854775807 c.if-offset-le9223372036854775807.false)
