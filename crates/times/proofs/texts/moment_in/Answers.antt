-- `times::texts::moment_in` meets its contract.
-- Assumes nothing.
use mathlib.Core.Path.{sym, ap, ◌∙◌}
use Rattle.std.specs.Bool.{then_some}
use Rattle.times.specs.declared.Moment.{Moment}
use Rattle.times.specs.Times.{valid_moment}
use Rattle.times.proofs.Written.{form}
use Rattle.times.proofs.Reading.{kept, not_kept, no_month, moment_read}
use Rattle.times.proofs.texts.moment_in.Goals as goal

pub returns-in_err-date : goal.returns-in_err-date
returns-in_err-date c =
    let t = c.args.text.now in
    rw (c.from_residual.ensures, no_month t c.requires.0 (form t c.requires.1) (not_kept _ _ (sym c.date_in.ensures ∙ c.in_err-date.was)))

pub returns : goal.returns
returns c =
    let t = c.args.text.now in
    let date = kept _ _ _ (sym c.date_in.ensures ∙ c.in_ok-date.was) in
    rw (c.then_some.ensures, c.is_moment.ensures)
    (ap (λ (m : Moment). then_some (valid_moment m) m)
    (moment_read t c.requires.0 (form t c.requires.1) _ _ _ _ _ _ _ date.1 c.two_digits-hour.ensures.0 c.two_digits-minute.ensures.0 c.two_digits-second.ensures.0
    c.two_digits.ensures.0 c.two_digits-2.ensures.0 c.two_digits-3.ensures.0))
