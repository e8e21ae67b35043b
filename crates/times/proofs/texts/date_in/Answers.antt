-- `times::texts::date_in` meets its contract.
-- Assumes nothing.
use mathlib.Core.Path.{sym, ap, ◌∙◌}
use Rattle.std.specs.Prelude.{Some}
use Rattle.calendar.specs.declared.Date.{Date}
use Rattle.times.proofs.Written.{form}
use Rattle.times.proofs.Reading.{kept, date-read}
use Rattle.times.proofs.texts.date_in.Goals as goal

pub returns : goal.returns
returns c =
    let t = c.args.text.now in
    let month = kept _ _ _ (sym c.month_in.ensures ∙ c.in_ok-month.was) in
    rw month.0
    (ap (λ (d : Date). Some d)
    (date-read t c.requires.0 (form t c.requires.1) _ _ _ _ c.two_digits.ensures.0 c.two_digits-2.ensures.0 month.1 c.two_digits-day.ensures.0))
