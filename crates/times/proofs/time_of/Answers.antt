-- `times::time_of` meets its contract.
-- Assumes nothing.
use Rattle.times.proofs.Numbers.{number_is}
use Rattle.times.proofs.Moments.{valid-date, time-is}
use Rattle.times.proofs.time_of.Goals as goal

pub days_before-before-requires : goal.days_before-before-requires
days_before-before-requires c = valid-date c.args.moment c.requires

pub returns : goal.returns
returns c =
    let m = c.args.moment in
    let before = c.days_before-before in
    time-is m _ (number_is before.result before.ensures.1 m.date before.ensures.0)
