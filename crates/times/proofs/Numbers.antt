-- Day numbers and counts of days as 32-bit numbers, and the tests of an mjd.
-- Assumes nothing.
use Prim.Native.Nat.{ℕ, suc, ◌-◌, ◌≤◌, ◌<◌}
use mathlib.Core.Bool.{Bool, true, false, cond, ◌&&◌}
use mathlib.Core.Path.{◌≡◌, refl, ap, ◌∙◌}
use native.Mathlib.Omega.{arith}
use lib.Dec.{T, leb, ltb, leb→le, le→leb}
use lib.IntN.{ℤ, pos, negsuc, nat_abs, ◌+ℤ◌, ◌-ℤ◌, +ℤ-neg_ℤ_cancel}
use lib.Signed.{non_neg, pos-nat_abs, le_z}
use mir.Syntax.{w32}
use mir.Val.{Fits, SFits, to_z, of_z}
use mir.Facts.{to_z-of_z, to_z_pos}
use borrow.Author.Tests.{le-ltb, ltb-false}
use Rattle.layout.specs.Search.{sum}
use Rattle.layout.proofs.Laws.{and_T}
use Rattle.layout.specs.declared.Time.{Time}
use Rattle.calendar.specs.declared.Date.{Date}
use Rattle.calendar.specs.Calendar.{leap, months, days_of_year, years, valid_date, days_before, day_zero, day_number}
use Rattle.calendar.proofs.Dates.{date_with}
use Rattle.calendar.proofs.Cases.{first-day, last-day}
use Rattle.times.specs.Times.{valid_time}

pub days_to_2000 : days_before day_zero ≡ 7305
unfolding days_before years days_of_year months leap sum
days_to_2000 = refl

-- ---- the test

pub time_range : (t : Time) → valid_time t ≡ ((le_z (negsuc 7304) t.days && le_z t.days (pos 36524)) && (ltb t.seconds 86400 && ltb t.microseconds 1000000))
unfolding valid_time
time_range t = rw (first-day, last-day)

-- ---- what is so of an mjd of the range

pub record Timed (t : Time) : Type 0 where
  pub range : T (le_z (negsuc 7304) t.days && le_z t.days (pos 36524))
  pub seconds : t.seconds < 86400
  pub microseconds : t.microseconds < 1000000

pub timed : (t : Time) → T (valid_time t) → Timed t
unfolding valid_time
timed t h =
    let r = (and_T (le_z (negsuc 7304) t.days && le_z t.days (pos 36524)) (ltb t.seconds 86400 && ltb t.microseconds 1000000)).0 (rw (first-day, last-day) at h) in
    let s = (and_T (ltb t.seconds 86400) (ltb t.microseconds 1000000)).0 r.1 in
    record { range = r.0; seconds = leb→le (suc t.seconds) 86400 s.0; microseconds = leb→le (suc t.microseconds) 1000000 s.1 }

pub is_timed : (t : Time) → Timed t → T (valid_time t)
unfolding valid_time
is_timed t v =
    rw (first-day, last-day)
    ((and_T (le_z (negsuc 7304) t.days && le_z t.days (pos 36524)) (ltb t.seconds 86400 && ltb t.microseconds 1000000)).1
    (v.range, (and_T (ltb t.seconds 86400) (ltb t.microseconds 1000000)).1 (le→leb (suc t.seconds) 86400 v.seconds, le→leb (suc t.microseconds) 1000000 v.microseconds)))

-- ---- from a day's number to the days before it

range_count : (z : ℤ) → T (le_z (negsuc 7304) z && le_z z (pos 36524)) → (nat_abs (z +ℤ pos 7305) < 43830) × T (non_neg (z +ℤ pos 7305))
range_count (pos n) h = (omega (arith, leb→le n 36524 h), tt)
range_count (negsuc n) h =
    let l : n ≤ 7304 = leb→le n 7304 ((and_T (leb n 7304) true).0 h).0 in
    rw (le-ltb 7305 (suc n) (omega arith)) (omega arith, tt)

number_of : (z : ℤ) (d : Date) → pos (days_before d) ≡ z +ℤ pos 7305 → day_number d ≡ z
unfolding day_number
number_of z d e = ap (λ (y : ℤ). y -ℤ pos (days_before day_zero)) e ∙ ap (λ (n : ℕ). (z +ℤ pos 7305) -ℤ pos n) days_to_2000 ∙ +ℤ-neg_ℤ_cancel z (pos 7305)

plus_fits : (z : ℤ) → T (non_neg z) → nat_abs z < 43830 → SFits w32 z
plus_fits (pos n) h l = record { sfits = omega arith }
plus_fits (negsuc n) h l = absurd h

module _ (z : ℤ) (fits : SFits w32 z) (range : T (le_z (negsuc 7304) z && le_z z (pos 36524))) where
  counted : (nat_abs (z +ℤ pos 7305) < 43830) × T (non_neg (z +ℤ pos 7305))
  counted = range_count z range

  pub sum_fits : SFits w32 (to_z w32 (of_z w32 z) +ℤ pos 7305)
  sum_fits = rw (to_z-of_z fits) (plus_fits (z +ℤ pos 7305) counted.1 counted.0)

  sum_is : to_z w32 (of_z w32 (to_z w32 (of_z w32 z) +ℤ pos 7305)) ≡ z +ℤ pos 7305
  sum_is = to_z-of_z sum_fits ∙ ap (λ (y : ℤ). y +ℤ pos 7305) (to_z-of_z fits)

  pub sum_casts : T (non_neg (to_z w32 (of_z w32 (to_z w32 (of_z w32 z) +ℤ pos 7305)))) × Fits w32 (nat_abs (to_z w32 (of_z w32 (to_z w32 (of_z w32 z) +ℤ pos 7305))))
  sum_casts = rw sum_is (counted.1, record { fits = omega (arith, counted.0) })

  pub sum_short : nat_abs (to_z w32 (of_z w32 (to_z w32 (of_z w32 z) +ℤ pos 7305))) < 43830
  sum_short = rw sum_is counted.0

  -- the day with so many days before it has this number
  pub day_is : (d : Date) → days_before d ≡ nat_abs (to_z w32 (of_z w32 (to_z w32 (of_z w32 z) +ℤ pos 7305))) → day_number d ≡ z
  day_is d e = number_of z d (ap pos (e ∙ ap nat_abs sum_is) ∙ pos-nat_abs (z +ℤ pos 7305) counted.1)

-- each number of the range is a day's
pub day_with : (z : ℤ) → T (le_z (negsuc 7304) z && le_z z (pos 36524)) → (d : Date) × (T (valid_date d) × (day_number d ≡ z))
day_with z range =
    let c = range_count z range in
    let d = date_with (nat_abs (z +ℤ pos 7305)) c.0 in
    (d.0, (d.1.0, number_of z d.0 (ap pos d.1.1 ∙ pos-nat_abs (z +ℤ pos 7305) c.1)))

-- ---- from the days before a day to its number

count_range : (n : ℕ) → n < 43830 → T (le_z (negsuc 7304) (pos n -ℤ pos 7305) && le_z (pos n -ℤ pos 7305) (pos 36524))
count_range n h = go (ltb n 7305) refl
  where
    go : (t : Bool) → ltb n 7305 ≡ t → T (le_z (negsuc 7304) (cond t (negsuc (7305 - suc n)) (pos (n - 7305))) && le_z (cond t (negsuc (7305 - suc n)) (pos (n - 7305))) (pos 36524))
    go true e = (and_T (leb (7305 - suc n) 7304) true).1 (le→leb (7305 - suc n) 7304 (omega arith), tt)
    go false e = le→leb (n - 7305) 36524 (omega (arith, ltb-false n 7305 e))

pub number_range : (d : Date) → days_before d < 43830 → T (le_z (negsuc 7304) (day_number d) && le_z (day_number d) (pos 36524))
unfolding day_number
number_range d l = rw days_to_2000 (count_range (days_before d) l)

minus-fits : (n : ℕ) → n < 43830 → SFits w32 (pos n -ℤ pos 7305)
minus-fits n small = go (ltb n 7305) refl
  where
    go : (t : Bool) → ltb n 7305 ≡ t → SFits w32 (cond t (negsuc (7305 - suc n)) (pos (n - 7305)))
    go true e = record { sfits = omega arith }
    go false e = record { sfits = omega arith }

module _ (n : ℕ) (small : n < 43830) where
  count-is : to_z w32 n ≡ pos n
  count-is = to_z_pos w32 (omega arith)

  pub difference_fits : SFits w32 (to_z w32 n -ℤ pos 7305)
  difference_fits = rw count-is (minus-fits n small)

  -- as the code subtracts
  pub number_is : (d : Date) → n ≡ days_before d → to_z w32 (of_z w32 (to_z w32 n -ℤ pos 7305)) ≡ day_number d
  unfolding day_number
  number_is d e = to_z-of_z difference_fits ∙ rw (count-is, e, days_to_2000)
