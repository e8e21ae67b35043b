-- Comparisons one behind the other: of numbers made of a higher and a lower part, and of the days before two dates.
-- Assumes nothing.
use Prim.Native.Nat.compare
use Prim.Native.Nat.{ℕ, zero, suc, ◌+◌, ◌-◌, ◌≤◌, ◌<◌, compare, Ordering}
use mathlib.Core.Bool.{Bool, false≢true}
use mathlib.Core.List.{List}
use mathlib.Core.Logic.{◌⊎◌, inl, inr}
use mathlib.Core.Path.{◌≡◌, refl, sym, ap, ◌∙◌}
use native.Mathlib.Omega.{arith}
use lib.Dec.{T, compare_is_eq, eqb→eq}
use lib.ListN.{take, get_or}
use Rattle.layout.specs.Search.{sum}
use Rattle.layout.proofs.Laws.{lt-or-le}
use Rattle.calendar.specs.declared.Date.{Date}
use Rattle.calendar.specs.Calendar.{leap, months, days_of_month, years, days_before}
use Rattle.calendar.specs.Order.{◌then◌, date_order}
use Rattle.calendar.proofs.Units.{over_before}
use Rattle.calendar.proofs.Dates.{Dated, year_at, in_year, in_short}

-- ---- what a comparison finds

pub compare_less : (m n : ℕ) → m < n → compare m n ≡ Ordering.lt
compare_less m zero h = absurd (omega arith)
compare_less zero (suc n) h = compare.zero-suc n
compare_less (suc m) (suc n) h = compare.suc-suc m n ∙ compare_less m n (omega arith)

pub compare_more : (m n : ℕ) → n < m → compare m n ≡ Ordering.gt
compare_more zero n h = absurd (omega arith)
compare_more (suc m) zero h = compare.suc-zero m
compare_more (suc m) (suc n) h = compare.suc-suc m n ∙ compare_more m n (omega arith)

pub compare_same : (m : ℕ) → compare m m ≡ Ordering.eq
compare_same zero = compare.zero-zero
compare_same (suc m) = compare.suc-suc m m ∙ compare_same m

pub same_number : (m n : ℕ) → compare m n ≡ Ordering.eq → m ≡ n
same_number m n h = eqb→eq m n (told (compare m n) h)
  where
    told : (o : Ordering) → o ≡ Ordering.eq → T (compare_is_eq o)
    told o e = rw e tt

-- ---- one behind the other

pub then_assoc : (a b c : Ordering) → (a then b) then c ≡ a then (b then c)
then_assoc Ordering.lt b c = refl
then_assoc Ordering.eq b c = refl
then_assoc Ordering.gt b c = refl

-- the second is asked only where the first finds no difference
pub then_when : (a b c : Ordering) → (a ≡ Ordering.eq → b ≡ c) → a then b ≡ a then c
then_when Ordering.lt b c h = refl
then_when Ordering.eq b c h = h refl
then_when Ordering.gt b c h = refl

pub both_same : (a b : Ordering) → a then b ≡ Ordering.eq → (a ≡ Ordering.eq) × (b ≡ Ordering.eq)
both_same Ordering.lt b h = absurd (false≢true (ap compare_is_eq h))
both_same Ordering.eq b h = (refl, h)
both_same Ordering.gt b h = absurd (false≢true (ap compare_is_eq h))

-- x is made of a and r, and y of b and s, a and b deciding where they differ
pub in_turn : (x y a b r s : ℕ) → (a < b → x < y) → (b < a → y < x) → (a ≡ b → x + s ≡ y + r) → compare x y ≡ compare a b then compare r s
in_turn x y a b r s less more same = go (lt-or-le a b) (lt-or-le b a)
  where
    lower : x + s ≡ y + r → (r < s) ⊎ (s ≤ r) → (s < r) ⊎ (r ≤ s) → compare x y ≡ compare r s
    lower e (inl l) m = rw (compare_less r s l) (compare_less x y (omega arith))
    lower e (inr l) (inl m) = rw (compare_more r s m) (compare_more x y (omega arith))
    lower e (inr l) (inr m) =
        let p : r ≡ s = omega arith in
        let q : x ≡ y = omega arith in
        rw (p, q, compare_same y, compare_same s)

    go : (a < b) ⊎ (b ≤ a) → (b < a) ⊎ (a ≤ b) → compare x y ≡ compare a b then compare r s
    go (inl l) m = rw (compare_less a b l) (compare_less x y (less l))
    go (inr l) (inl m) = rw (compare_more a b m) (compare_more x y (more m))
    go (inr l) (inr m) = let e : a ≡ b = omega arith in rw (e, compare_same b) (lower (same e) (lt-or-le r s) (lt-or-le s r))

-- ---- units: of two days that in the earlier unit comes first

module _ (l : List ℕ) (i j r s : ℕ) (fits : r < get_or l i 0) (also : s < get_or l j 0) where
  pub earlier_unit : i < j → sum (take i l) + r < sum (take j l) + s
  earlier_unit h = omega (arith, over_before l i j h)

  pub later_unit : j < i → sum (take j l) + s < sum (take i l) + r
  later_unit h = omega (arith, over_before l j i h)

-- ---- dates

-- in one year
module _ (long : Bool) (m d n e : ℕ) (january : 1 ≤ m) (also : 1 ≤ n) (one : 1 ≤ d) (first : 1 ≤ e)
    (days : d ≤ get_or (months long) (m - 1) 0) (fit : e ≤ get_or (months long) (n - 1) 0) where
  year_in_turn : compare (sum (take (m - 1) (months long)) + (d - 1)) (sum (take (n - 1) (months long)) + (e - 1)) ≡ compare m n then compare d e
  year_in_turn =
      in_turn (sum (take (m - 1) (months long)) + (d - 1)) (sum (take (n - 1) (months long)) + (e - 1)) m n d e
      (λ h. earlier_unit (months long) (m - 1) (n - 1) (d - 1) (e - 1) (omega arith) (omega arith) (omega arith))
      (λ h. later_unit (months long) (m - 1) (n - 1) (d - 1) (e - 1) (omega arith) (omega arith) (omega arith))
      (λ h. rw h (omega arith))

month_fits : (y : ℕ) (b : Date) (w : Dated b) → y ≡ b.year → b.day ≤ get_or (months (leap y)) (b.month - 1) 0
unfolding days_of_month
month_fits y b w e = rw e w.days

module _ (a b : Date) (v : Dated a) (w : Dated b) where
  months_in_turn : a.year ≡ b.year → compare (in_year a v) (in_year b w) ≡ compare a.month b.month then compare a.day b.day
  months_in_turn e =
      ap (λ (y : ℕ). compare (in_year a v) (sum (take (b.month - 1) (months (leap y))) + (b.day - 1))) (sym e)
      ∙ year_in_turn (leap a.year) a.month a.day b.month b.day v.january w.january v.one w.one
      (month_fits a.year a v refl) (month_fits a.year b w e)

  year_fits : (d : Date) (u : Dated d) → in_year d u < get_or years (d.year - 1980) 0
  year_fits d u = rw (year_at d.year u.first u.last) (in_short d u)

  pub dates_in_turn : compare (days_before a) (days_before b) ≡ date_order a b
  unfolding days_before date_order
  dates_in_turn =
      in_turn (sum (take (a.year - 1980) years) + in_year a v) (sum (take (b.year - 1980) years) + in_year b w) a.year b.year (in_year a v) (in_year b w)
      (λ h. earlier_unit years (a.year - 1980) (b.year - 1980) (in_year a v) (in_year b w) (year_fits a v) (year_fits b w) (omega (arith, v.first)))
      (λ h. later_unit years (a.year - 1980) (b.year - 1980) (in_year a v) (in_year b w) (year_fits a v) (year_fits b w) (omega (arith, w.first)))
      (λ h. rw h (omega arith))
      ∙ then_when (compare a.year b.year) (compare (in_year a v) (in_year b w)) (compare a.month b.month then compare a.day b.day) (λ h. months_in_turn (same_number a.year b.year h))
