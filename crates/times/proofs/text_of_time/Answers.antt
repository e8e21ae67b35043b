-- `times::text_of_time` meets its contract.
-- Assumes nothing.
use mathlib.Core.Path.{sym, ap, ◌∙◌}
use Rattle.times.specs.Times.{valid_time}
use Rattle.times.proofs.Said.{told}
use Rattle.times.proofs.Answers.{time-kept, refused-text, given-text}
use Rattle.times.proofs.text_of_time.Goals as goal

pub returns-then-not-is_time : goal.returns-then-not-is_time
returns-then-not-is_time c =
    let kept = time-kept c.args.days c.args.seconds c.args.microseconds c.ranges.days in
    refused-text _ (sym (ap valid_time kept) ∙ sym c.is_time.ensures ∙ c.if-not-is_time.true)

pub returns : goal.returns
returns c =
    let kept = time-kept c.args.days c.args.seconds c.args.microseconds c.ranges.days in
    let moment = c.moment_of in
    let good = told _ (sym (ap valid_time kept) ∙ sym c.is_time.ensures ∙ c.if-not-is_time.false) in
    given-text _ moment.result _ good moment.ensures.0 (moment.ensures.1 ∙ kept) c.text_of.ensures
