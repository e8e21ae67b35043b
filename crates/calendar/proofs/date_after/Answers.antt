-- `calendar::date_after` meets its contract.
-- Assumes nothing.
use Rattle.calendar.proofs.Dates.{date-after}
use Rattle.calendar.proofs.date_after.Goals as goal

pub returns : goal.returns
returns c = date-after c.args.days c.requires c.is_leap-long.result c.is_leap-long.ensures c.days_of_even_months-even.result c.days_of_even_months-even.ensures.0
