-- Valid moments and their times.
-- Assumes nothing.
use Prim.Native.Nat.{ℕ, ◌+◌, ◌*◌, ◌-◌, ◌/◌, ◌<◌}
use mathlib.Core.Bool.{◌&&◌}
use mathlib.Core.Path.{◌≡◌}
use native.Mathlib.Omega.{arith}
use lib.Dec.{T, ltb}
use lib.IntN.{ℤ}
use Rattle.layout.specs.declared.Time.{Time}
use Rattle.layout.proofs.Laws.{and_T, leb-T}
use Rattle.calendar.specs.declared.Date.{Date}
use Rattle.calendar.specs.Calendar.{valid_date, day_number}
use Rattle.calendar.proofs.Dates.{Dated, dated, day_most, before_short}
use Rattle.times.specs.declared.Moment.{Moment}
use Rattle.times.specs.Times.{valid_moment, time_of, valid_time}
use Rattle.times.proofs.Numbers.{Timed, is_timed, number_range, day_with}

-- what is so of a valid moment
pub record Valid (m : Moment) : Type 0 where
  pub date : Dated m.date
  pub hour : m.hour < 24
  pub minute : m.minute < 60
  pub second : m.second < 60
  pub microsecond : m.microsecond < 1000000

pub valid : (m : Moment) → T (valid_moment m) → Valid m
unfolding valid_moment
valid m h =
    let r = simp (and_T, leb-T) at h in
    record { date = dated m.date r.0; hour = r.1.0; minute = r.1.1.0; second = r.1.1.1.0; microsecond = r.1.1.1.1 }

pub valid-date : (m : Moment) → T (valid_moment m) → T (valid_date m.date)
unfolding valid_moment
valid-date m h = ((and_T (valid_date m.date) (ltb m.hour 24 && (ltb m.minute 60 && (ltb m.second 60 && ltb m.microsecond 1000000)))).0 h).0

pub valid_day : (m : Moment) → Valid m → m.date.day < 100
valid_day m v = omega (arith, day_most m.date v.date)

-- a valid moment has a time of the range
pub time_valid : (m : Moment) → Valid m → T (valid_time (time_of m))
unfolding time_of
time_valid m v = is_timed (time_of m) (record {
  range = number_range m.date (before_short m.date v.date);
  seconds = omega (arith, v.hour, v.minute, v.second);
  microseconds = v.microsecond;
})

-- the moment found from a time
module _ (t : Time) (r : Timed t) (d : Date) (date : T (valid_date d)) (number : day_number d ≡ t.days) where
  abbrev found : Moment
  found =
      let hour = t.seconds / 3600 in
      let rest = t.seconds - 3600 * hour in
      record { date = d; hour = hour; minute = rest / 60; second = rest - 60 * (rest / 60); microsecond = t.microseconds }

  pub found_valid : T (valid_moment found)
  unfolding valid_moment
  found_valid = simp (and_T, leb-T) (date, (omega (arith, r.seconds), (omega arith, (omega arith, r.microseconds))))

  whole_day : (n : ℕ) → 3600 * (n / 3600) + 60 * ((n - 3600 * (n / 3600)) / 60) + (n - 3600 * (n / 3600) - 60 * ((n - 3600 * (n / 3600)) / 60)) ≡ n
  whole_day n = omega arith

  pub found-time : time_of found ≡ t
  unfolding time_of
  found-time = λ j. record { days = number j; seconds = whole_day t.seconds j; microseconds = t.microseconds }

-- each time of the range has one
pub moment_with : (t : Time) → Timed t → (m : Moment) × (T (valid_moment m) × (time_of m ≡ t))
moment_with t r =
    let day = day_with t.days r.range in
    (found t r day.0 day.1.0 day.1.1, (found_valid t r day.0 day.1.0 day.1.1, found-time t r day.0 day.1.0 day.1.1))

-- a moment's time, from its day's number
pub time-is : (m : Moment) (z : ℤ) → z ≡ day_number m.date → ◌≡◌ {A = Time} (record { days = z; seconds = 3600 * m.hour + 60 * m.minute + m.second; microseconds = m.microsecond }) (time_of m)
unfolding time_of
time-is m z e = λ j. record { days = e j; seconds = 3600 * m.hour + 60 * m.minute + m.second; microseconds = m.microsecond }
