-- `calendar::days_before` meets its contract.
-- Assumes nothing.
use native.Mathlib.Omega.{arith}
use Rattle.calendar.proofs.Dates.{dated, before-added, added_short}
use Rattle.calendar.proofs.days_before.Goals as goal

pub overflow_add-result-2 : goal.overflow_add-result-2
overflow_add-result-2 c =
    let date = c.args.date in
    record { fits = omega (arith, added_short date (dated date c.requires) c.is_leap-long.ensures c.days_of_months-months.ensures.0) }

pub returns : goal.returns
returns c =
    let date = c.args.date in
    let v = dated date c.requires in
    let long = c.is_leap-long.ensures in
    let months = c.days_of_months-months.ensures.0 in
    (before-added date v long months, added_short date v long months)
