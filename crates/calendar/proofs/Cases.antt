-- Years, months and day numbers, computed.
-- Assumes nothing.
use Prim.Native.Nat.{ℕ}
use mathlib.Core.Bool.{true, false}
use mathlib.Core.Path.{◌≡◌, refl}
use lib.IntN.{pos, negsuc}
use Rattle.layout.specs.Search.{sum}
use Rattle.calendar.specs.declared.Date.{Date}
use Rattle.calendar.specs.Calendar.{leap, months, days_of_month, days_of_year, years, valid_date, days_before, day_number}

abbrev on : ℕ → ℕ → ℕ → Date
on d m y = record { year = y; month = m; day = d }

-- ---- leap years: 4 divides 1900, 2000, 2004 and 2100, and 400 only 2000

leap-years : (leap 1900 ≡ false) × ((leap 2000 ≡ true) × ((leap 2001 ≡ false) × ((leap 2004 ≡ true) × (leap 2100 ≡ false))))
unfolding leap
leap-years = (refl, (refl, (refl, (refl, refl))))

februaries : (days_of_month 2000 2 ≡ 29) × ((days_of_month 2001 2 ≡ 28) × ((days_of_year 2000 ≡ 366) × (days_of_year 2001 ≡ 365)))
unfolding days_of_month days_of_year months leap sum
februaries = (refl, (refl, (refl, refl)))

-- ---- day numbers

day_0 : day_number (on 1 1 2000) ≡ pos 0
unfolding day_number days_before years days_of_year months leap sum
day_0 = refl

day_before : day_number (on 31 12 1999) ≡ negsuc 0
unfolding day_number days_before years days_of_year months leap sum
day_before = refl

pub first-day : day_number (on 1 1 1980) ≡ negsuc 7304
unfolding day_number days_before years days_of_year months leap sum
first-day = refl

pub last-day : day_number (on 31 12 2099) ≡ pos 36524
unfolding day_number days_before years days_of_year months leap sum
last-day = refl

day_60 : day_number (on 1 3 2000) ≡ pos 60
unfolding day_number days_before years days_of_year months leap sum
day_60 = refl

-- ---- dates of the range

out_of_range : (valid_date (on 31 12 1979) ≡ false) × ((valid_date (on 1 1 1980) ≡ true) × ((valid_date (on 31 12 2099) ≡ true) × (valid_date (on 1 1 2100) ≡ false)))
unfolding valid_date days_of_month months leap
out_of_range = (refl, (refl, (refl, refl)))

out_of_month : (valid_date (on 30 2 2000) ≡ false) × ((valid_date (on 29 2 2000) ≡ true) × ((valid_date (on 29 2 2001) ≡ false) × ((valid_date (on 0 3 2001) ≡ false) × ((valid_date (on 31 4 2001) ≡ false) × (valid_date (on 1 13 2001) ≡ false)))))
unfolding valid_date days_of_month months leap
out_of_month = (refl, (refl, (refl, (refl, (refl, refl)))))
