-- `times::moment_of` meets its contract.
-- Assumes nothing.
use borrow.Author.Rules.{rules}
use Rattle.times.proofs.Numbers.{timed, sum_fits, sum_casts, sum_short, day_is}
use Rattle.times.proofs.Moments.{found_valid, found-time}
use Rattle.times.proofs.moment_of.Goals as goal

pub overflow_add-before : goal.overflow_add-before
overflow_add-before c = sum_fits c.args.time.days (search rules) (timed c.args.time c.requires).range

pub overflow_cast-before : goal.overflow_cast-before
overflow_cast-before c = sum_casts c.args.time.days (search rules) (timed c.args.time c.requires).range

pub date_after-requires : goal.date_after-requires
date_after-requires c = sum_short c.args.time.days (search rules) (timed c.args.time c.requires).range

pub returns : goal.returns
returns c =
    let t = c.args.time in
    let v = timed t c.requires in
    let date = c.date_after in
    let number = day_is t.days (search rules) v.range date.result date.ensures.1 in
    (found_valid t v date.result date.ensures.0 number, found-time t v date.result date.ensures.0 number)
