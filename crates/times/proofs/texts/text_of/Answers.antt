-- `times::texts::text_of` meets its contract.
-- Assumes nothing.
use mathlib.Core.Path.{ap, ◌∙◌}
use mir.Syntax.{w32}
use Rattle.std.specs.Int.{to_le_bytes}
use Rattle.times.specs.Times.{in_digits}
use Rattle.times.proofs.Moments.{valid, valid_day}
use Rattle.times.proofs.Months.{name_bytes}
use Rattle.times.proofs.Written.{as_written}
use Rattle.times.proofs.texts.text_of.Goals as goal

pub two_digits-day-requires : goal.two_digits-day-requires
two_digits-day-requires c = valid_day c.args.moment (valid c.args.moment c.requires)

pub returns : goal.returns
unfolding in_digits
returns c =
    let m = c.args.moment in
    let v = valid m c.requires in
    let name = c.to_le_bytes-name.ensures ∙ ap (λ n. to_le_bytes w32 n) c.name_of.ensures ∙ name_bytes m.date.month v.date.january v.date.december in
    rw (
      c.two_digits-day.ensures,
      name,
      c.two_digits-century.ensures,
      c.two_digits-year.ensures,
      c.two_digits-hour.ensures,
      c.two_digits-minute.ensures,
      c.two_digits-seconds.ensures,
      c.two_digits-high.ensures,
      c.two_digits-middle.ensures,
      c.two_digits-low.ensures,
    ) (as_written m v.date.january v.date.december)
