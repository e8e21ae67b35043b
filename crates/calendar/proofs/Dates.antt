-- Dates of the range and the days before them.
-- Assumes nothing.
use Prim.Native.Nat.{ℕ, zero, suc, ◌+◌, ◌*◌, ◌-◌, ◌/◌, ◌%◌, ◌≤◌, ◌<◌}
use mathlib.Core.Bool.{Bool, true, false, cond}
use mathlib.Core.Path.{◌≡◌, refl, sym, ap, ◌∙◌}
use native.Mathlib.Omega.{arith}
use lib.Dec.{T, eqb}
use lib.ListN.{take, get_or}
use borrow.Author.Tests.{eqb-false}
use Rattle.layout.specs.Search.{sum}
use Rattle.layout.proofs.Laws.{and_T, leb-T}
use Rattle.layout.proofs.Sound.{get_or-map-upto}
use Rattle.calendar.specs.declared.Date.{Date}
use Rattle.calendar.specs.Calendar.{leap, months, days_of_month, days_of_year, years, valid_date, days_before}
use Rattle.calendar.proofs.Units.{one_more, over_before}
use Rattle.calendar.proofs.Days.{every_fourth, years-are, year_long, month_long, even, over_of, Over, found}
use Rattle.calendar.specs.Even.{even_days}

-- what is so of a date of the range
pub record Dated (d : Date) : Type 0 where
  pub first : 1980 ≤ d.year
  pub last : d.year ≤ 2099
  pub january : 1 ≤ d.month
  pub december : d.month ≤ 12
  pub one : 1 ≤ d.day
  pub days : d.day ≤ days_of_month d.year d.month

pub dated : (d : Date) → T (valid_date d) → Dated d
unfolding valid_date
dated d h =
    let r = simp (and_T, leb-T) at h in
    record { first = r.0.0; last = r.0.1; january = r.1.0.0; december = r.1.0.1; one = r.1.1.0; days = r.1.1.1 }

pub is_dated : (d : Date) → Dated d → T (valid_date d)
unfolding valid_date
is_dated d v = simp (and_T, leb-T) ((v.first, v.last), ((v.january, v.december), (v.one, v.days)))

-- ---- a month's days

module _ (y m : ℕ) (l : 1 ≤ m) where
  -- up to its end and up to its start
  pub month_is : sum (take m (months (leap y))) ≡ sum (take (m - 1) (months (leap y))) + days_of_month y m
  unfolding days_of_month
  month_is = let e : suc (m - 1) ≡ m = omega arith in rw e at (one_more (months (leap y)) (m - 1))

pub day_most : (d : Date) → Dated d → d.day ≤ 31
unfolding days_of_month
day_most d v = omega (arith, v.days, month_long (leap d.year) (d.month - 1) (omega (arith, v.december)))

-- ---- the days before a date

-- a year of the range, by its place in it
pub year_at : (y : ℕ) → 1980 ≤ y → y ≤ 2099 → get_or years (y - 1980) 0 ≡ days_of_year y
unfolding years
year_at y l u = let e : 1980 + (y - 1980) ≡ y = omega arith in get_or-map-upto days_of_year 0 1980 120 (y - 1980) (omega arith) ∙ ap days_of_year e

whole_year : (y : ℕ) → sum (take 12 (months (leap y))) ≡ days_of_year y
unfolding days_of_year months
whole_year y = refl

module _ (d : Date) (v : Dated d) where
  -- those of its year
  abbrev pub in_year : ℕ
  in_year = sum (take (d.month - 1) (months (leap d.year))) + (d.day - 1)

  pub before-is : days_before d ≡ (1461 * (d.year - 1980) + 3) / 4 + in_year
  unfolding days_before
  before-is = rw (years-are (d.year - 1980) (omega (arith, v.last)))

  month_over : sum (take (d.month - 1) (months (leap d.year))) + days_of_month d.year d.month ≤ sum (take 12 (months (leap d.year)))
  unfolding days_of_month
  month_over = over_before (months (leap d.year)) (d.month - 1) 12 (omega (arith, v.december))

  pub in_short : in_year < days_of_year d.year
  in_short = rw (sym (whole_year d.year)) (omega (arith, v.one, v.days, month_over))

  pub before_short : days_before d < 43830
  unfolding days_before
  before_short =
      let over = over_before years (d.year - 1980) 120 (omega (arith, v.last)) in
      omega (arith, over, year_at d.year v.first v.last, in_short, years-are 120 (omega arith))

  -- as the code adds them
  module _ {long : Bool} {m : ℕ} (q : long ≡ leap d.year) (e : m ≡ sum (take (d.month - 1) (months long))) where
    pub before-added : (1461 * (d.year - 1980) + 3) / 4 + m + (d.day - 1) ≡ days_before d
    before-added = let f : m ≡ sum (take (d.month - 1) (months (leap d.year))) = rw q at e in omega (arith, before-is)

    pub added_short : (1461 * (d.year - 1980) + 3) / 4 + m + (d.day - 1) < 43830
    added_short = rw before-added before_short

-- ---- the days of a month, n to its end and m to its start

module _ (y month : ℕ) (january : 1 ≤ month) {long : Bool} {n m : ℕ} (q : long ≡ leap y) (e : n ≡ sum (take month (months long)))
    (f : m ≡ sum (take (month - 1) (months long))) where
  days_are : n ≡ m + days_of_month y month
  days_are = e ∙ rw (q, month_is y month january) (ap (λ (k : ℕ). k + days_of_month y month) (sym (rw q at f)))

  pub month_ends : m ≤ n
  month_ends = omega (arith, days_are)

  pub month_has : n - m ≡ days_of_month y month
  month_has = omega (arith, days_are)

-- ---- the date found

module _ (k over b r : ℕ) (u : k ≤ 119) (begun : b ≡ sum (take over (months (leap (1980 + k))))) (from : b ≤ r)
    (short : r < sum (take (suc over) (months (leap (1980 + k))))) (last : over ≤ 11) where
  abbrev date_at : Date
  date_at = record { year = 1980 + k; month = over + 1; day = r - b + 1 }

  month_short : r < b + days_of_month (1980 + k) (over + 1)
  unfolding days_of_month
  month_short = let e : over + 1 - 1 ≡ over = omega arith in rw e (omega (arith, one_more (months (leap (1980 + k))) over))

  date_dated : Dated date_at
  date_dated = record {
    first = omega arith;
    last = omega arith;
    january = omega arith;
    december = omega arith;
    one = omega arith;
    days = omega (arith, month_short);
  }

  pub date-is : T (valid_date date_at) × (days_before date_at ≡ (1461 * k + 3) / 4 + r)
  date-is = (is_dated date_at date_dated, counted)
    where
      counted : days_before date_at ≡ (1461 * k + 3) / 4 + r
      counted =
          let e : over + 1 - 1 ≡ over = omega arith in
          let f : 1980 + k - 1980 ≡ k = omega arith in
          before-is date_at date_dated ∙ rw (e, f) (omega arith)

same_fourth : (k : ℕ) → k % 4 ≡ 0 → (1980 + k) % 4 ≡ 0
same_fourth k h = omega arith

-- in the j-th year of four
common_short : (n q j : ℕ) → j < 4 → (j ≡ 0 → ⊥) → 4 * n < 1461 * (4 * q + j + 1) → n - (1461 * (4 * q + j) + 3) / 4 < 365
common_short n q zero u h l = absurd (h refl)
common_short n q (suc zero) u h l = omega arith
common_short n q (suc (suc zero)) u h l = omega arith
common_short n q (suc (suc (suc zero))) u h l = omega arith
common_short n q (suc (suc (suc (suc j)))) u h l = absurd (omega arith)

-- the days of a year, from the code's count of the years before it
pub rest_short : (n : ℕ) (long : Bool) → n < 43830 → long ≡ leap (1980 + 4 * n / 1461) → n - (1461 * (4 * n / 1461) + 3) / 4 < sum (months long)
rest_short n long u e = rw (year_long long) (go long (every_fourth (1980 + 4 * n / 1461) (omega arith) (omega arith) ∙ sym e))
  where
    go : (long : Bool) → eqb ((1980 + 4 * n / 1461) % 4) 0 ≡ long → n - (1461 * (4 * n / 1461) + 3) / 4 < cond long 366 365
    go true h = omega arith
    go false h =
        let k : (4 * n / 1461 % 4 ≡ 0 → ⊥) = λ z. eqb-false ((1980 + 4 * n / 1461) % 4) 0 h (same_fourth (4 * n / 1461) z) in
        let e : 4 * (4 * n / 1461 / 4) + 4 * n / 1461 % 4 ≡ 4 * n / 1461 = omega arith in
        rw e at (common_short n (4 * n / 1461 / 4) (4 * n / 1461 % 4) (omega arith) k (rw e (omega arith)))

-- the date with n days before it
module _ (n : ℕ) (u : n < 43830) (long : Bool) (e : long ≡ leap (1980 + 4 * n / 1461)) where
  abbrev rest : ℕ
  rest = n - (1461 * (4 * n / 1461) + 3) / 4

  pub over_found : Over long rest (over_of long rest)
  over_found = found long rest (rest_short n long u e)

  pub date-after : (d : ℕ) → d ≡ even_days long rest
      → T (valid_date (record { year = 1980 + 4 * n / 1461; month = (67 * d + 27) / 2048 + 1; day = d - even ((67 * d + 27) / 2048) + 1 }))
      × (days_before (record { year = 1980 + 4 * n / 1461; month = (67 * d + 27) / 2048 + 1; day = d - even ((67 * d + 27) / 2048) + 1 }) ≡ n)
  date-after d f =
      let o = over_found in
      let b = sum (take (over_of long rest) (months long)) in
      let found = date-is (4 * n / 1461) (over_of long rest) b rest (omega arith) (rw e) o.begun (rw (sym e) o.short) o.last in
      rw (f, o.days) (found.0, found.1 ∙ omega arith)

-- each count of days of the range has a date
pub date_with : (n : ℕ) → n < 43830 → (d : Date) × (T (valid_date d) × (days_before d ≡ n))
date_with n u = let d = even_days (leap (1980 + 4 * n / 1461)) (n - (1461 * (4 * n / 1461) + 3) / 4) in
    (record { year = 1980 + 4 * n / 1461; month = (67 * d + 27) / 2048 + 1; day = d - even ((67 * d + 27) / 2048) + 1 }, date-after n u (leap (1980 + 4 * n / 1461)) refl d refl)
