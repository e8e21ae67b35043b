-- `calendar::days_of_month` meets its contract.
-- Assumes nothing.
use Rattle.calendar.proofs.Dates.{month_ends, month_has}
use Rattle.calendar.proofs.days_of_month.Goals as goal

pub overflow_sub-result : goal.overflow_sub-result
overflow_sub-result c = month_ends c.args.year c.args.month c.requires.1.0 c.is_leap-long.ensures c.days_of_months.ensures.0 c.days_of_months-2.ensures.0

pub returns : goal.returns
returns c = month_has c.args.year c.args.month c.requires.1.0 c.is_leap-long.ensures c.days_of_months.ensures.0 c.days_of_months-2.ensures.0
