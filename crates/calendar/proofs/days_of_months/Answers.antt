-- `calendar::days_of_months` meets its contract.
-- Assumes nothing.
use Rattle.calendar.proofs.Days.{months-fit}
use Rattle.calendar.proofs.days_of_months.Goals as goal

pub overflow_sub-result : goal.overflow_sub-result
overflow_sub-result c = months-fit c.args.long c.args.count c.requires c.missing_days-missing.ensures.0 c.from_on.ensures
