-- The Gregorian calendar (document 02, order 7): which years are leap, the days of each month, and a day's number as a count of the days before it.
-- Assumes nothing.
use Rattle.std.specs.Prelude.{ℕ, ◌+◌, ◌-◌, ◌%◌, Bool, cond, ◌&&◌, ◌||◌, not, List, [], ◌∷◌, map, eqb, ℤ, pos, ◌-ℤ◌, take, get_or}
use Rattle.layout.specs.Bytes.{within}
use Rattle.layout.specs.Search.{upto, sum}
use Rattle.calendar.specs.declared.Date.{Date}

-- ---- years and months

-- a year that 4 divides is leap, but of those that 100 divides only the ones that 400 divides
unfoldable pub leap : ℕ → Bool
leap y = eqb (y % 4) 0 && (not (eqb (y % 100) 0) || eqb (y % 400) 0)

-- the days of the months, January first, in a leap year or another
unfoldable pub months : Bool → List ℕ
months long = 31 ∷ cond long 29 28 ∷ 31 ∷ 30 ∷ 31 ∷ 30 ∷ 31 ∷ 31 ∷ 30 ∷ 31 ∷ 30 ∷ 31 ∷ []

-- the days of month m, January being 1
unfoldable pub days_of_month : ℕ → ℕ → ℕ
days_of_month y m = get_or (months (leap y)) (m - 1) 0

unfoldable pub days_of_year : ℕ → ℕ
days_of_year y = sum (months (leap y))

-- the days of the years from 1980 to 2099
unfoldable pub years : List ℕ
years = map days_of_year (upto 1980 120)

-- ---- dates

-- 1 January 1980 to 31 December 2099
unfoldable pub valid_date : Date → Bool
valid_date d = within 1980 2099 d.year && (within 1 12 d.month && within 1 (days_of_month d.year d.month) d.day)

-- the days before a date, from 1 January 1980 on: of the years before it, of its year's months before it, and of its month
unfoldable pub days_before : Date → ℕ
days_before d = sum (take (d.year - 1980) years) + (sum (take (d.month - 1) (months (leap d.year))) + (d.day - 1))

abbrev pub day_zero : Date
day_zero = record { year = 2000; month = 1; day = 1 }

-- a day's number: 1 January 2000 is 0, 31 December 1999 is -1
unfoldable pub day_number : Date → ℤ
day_number d = pos (days_before d) -ℤ pos (days_before day_zero)
