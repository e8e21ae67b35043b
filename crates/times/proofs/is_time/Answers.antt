-- `times::is_time` meets its contract.
-- Assumes nothing.
use Rattle.std.proofs.Common.{tests}
use borrow.Author.Rules.{rules}
use Rattle.times.proofs.Numbers.{time_range}
use Rattle.times.proofs.is_time.Goals as goal

pub returns-then-time-lt86400 : goal.returns-then-time-lt86400
returns-then-time-lt86400 c = rw (time_range c.args.time) (search (tests, rules))

pub returns-else-time-lt86400 : goal.returns-else-time-lt86400
returns-else-time-lt86400 c = rw (time_range c.args.time) (search (tests, rules))
