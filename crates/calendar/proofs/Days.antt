-- The days of years and of months, as the code works them out.
-- Assumes nothing.
use Prim.Native.Nat.{ℕ, suc, ◌+◌, ◌*◌, ◌-◌, ◌/◌, ◌%◌, ◌≤◌, ◌<◌}
use mathlib.Core.Bool.{Bool, true, false, cond, ◌&&◌, not}
use mathlib.Core.Path.{◌≡◌, refl}
use native.Mathlib.Omega.{arith}
use lib.Dec.{T, leb, ltb, eqb, leb→le, eqb→eq}
use lib.ListN.{take, get_or}
use Rattle.layout.specs.Answer.{need, accepted}
use Rattle.layout.specs.Search.{first, sum}
use Rattle.layout.proofs.Laws.{and_T, leb-T, eqb-T, need-accepts, first-accepts}
use Rattle.calendar.specs.Calendar.{leap, months, days_of_year, years}
use Rattle.calendar.specs.Even.{missing, from_on, even_days}

-- a test that each of n numbers passes, by computing it for each
pub each_passes : (t : ℕ → Bool) (i n : ℕ) → first (λ k. need (t k) 0 0 0) i n ≡ accepted → (k : ℕ) → i ≤ k → k < i + n → T (t k)
each_passes t i n h k l u = (need-accepts (t k) 0 0 0).0 ((first-accepts (λ k. need (t k) 0 0 0) i n).0 h k l u)

-- ---- years

-- the years of the range that 4 divides are leap
fourths : first (λ y. need (cond (leap y) (eqb (y % 4) 0) (not (eqb (y % 4) 0))) 0 0 0) 1980 120 ≡ accepted
unfolding first leap
fourths = refl

pub every_fourth : (y : ℕ) → 1980 ≤ y → y ≤ 2099 → eqb (y % 4) 0 ≡ leap y
every_fourth y l u = same (eqb (y % 4) 0) (leap y) (each_passes (λ y. cond (leap y) (eqb (y % 4) 0) (not (eqb (y % 4) 0))) 1980 120 fourths y l (omega arith))
  where
    same : (a b : Bool) → T (cond b a (not a)) → a ≡ b
    same true true h = refl
    same true false h = absurd h
    same false true h = absurd h
    same false false h = refl

-- the first k years have together
years-counted : first (λ k. need (eqb (sum (take k years)) ((1461 * k + 3) / 4)) 0 0 0) 0 121 ≡ accepted
unfolding first sum years days_of_year months leap
years-counted = refl

pub years-are : (k : ℕ) → k ≤ 120 → sum (take k years) ≡ (1461 * k + 3) / 4
years-are k u = eqb→eq (sum (take k years)) ((1461 * k + 3) / 4) (each_passes (λ k. eqb (sum (take k years)) ((1461 * k + 3) / 4)) 0 121 years-counted k (omega arith) (omega arith))

-- ---- months

-- the first k months, had February 30 days
abbrev pub even : ℕ → ℕ
even k = (489 * k + 8) / 16

abbrev counts : Bool → ℕ → Bool
counts long k = eqb (even k - from_on k 2 (missing long)) (sum (take k (months long))) && (leb (sum (take k (months long))) 366 && leb (from_on k 2 (missing long)) (even k))

months-counted : (long : Bool) → first (λ k. need (counts long k) 0 0 0) 0 13 ≡ accepted
unfolding first sum months from_on missing
months-counted true = refl
months-counted false = refl

module _ (long : Bool) (k : ℕ) (u : k ≤ 12) where
  pub counted : (even k - from_on k 2 (missing long) ≡ sum (take k (months long))) × ((sum (take k (months long)) ≤ 366) × (from_on k 2 (missing long) ≤ even k))
  counted =
      let n = even k - from_on k 2 (missing long) in
      let m = sum (take k (months long)) in
      let h = (and_T (eqb n m) (leb m 366 && leb (from_on k 2 (missing long)) (even k))).0 (each_passes (counts long) 0 13 (months-counted long) k (omega arith) (omega arith)) in
      let l = (and_T (leb m 366) (leb (from_on k 2 (missing long)) (even k))).0 h.1 in
      (eqb→eq n m h.0, (leb→le m 366 l.0, leb→le (from_on k 2 (missing long)) (even k) l.1))

  -- as the code subtracts
  pub months-fit : {many less : ℕ} → many ≡ missing long → less ≡ from_on k 2 many → less ≤ even k
  months-fit e f = rw (f, e) counted.1.1

-- ---- the month that a day of a year falls in

-- the days with a February of 30
module _ (long : Bool) (d : ℕ) where
  pub even_most : even_days long d ≤ d + 2
  unfolding even_days from_on missing
  even_most = go long (ltb d (61 - missing long))
    where
      go : (l u : Bool) → d + cond u 0 (cond l 1 2) ≤ d + 2
      go true true = omega arith
      go true false = omega arith
      go false true = omega arith
      go false false = omega arith

-- the months that are over
abbrev pub over_of : Bool → ℕ → ℕ
over_of long r = (67 * even_days long r + 27) / 2048

abbrev in_month : Bool → ℕ → Bool
in_month long r =
    let before = sum (take (over_of long r) (months long)) in
    (leb before r && (ltb r (sum (take (suc (over_of long r)) (months long))) && leb (over_of long r) 11))
    && (leb (even (over_of long r)) (even_days long r) && eqb (even_days long r - even (over_of long r)) (r - before))

months-found : (long : Bool) → first (λ r. need (in_month long r) 0 0 0) 0 (sum (months long)) ≡ accepted
unfolding first sum months even_days from_on missing
months-found true = refl
months-found false = refl

-- so many months are over on day r, the next one is not, and the days of it before r are as many with a February of 30
pub record Over (long : Bool) (r over : ℕ) : Type 0 where
  pub begun : sum (take over (months long)) ≤ r
  pub short : r < sum (take (suc over) (months long))
  pub last : over ≤ 11
  pub fits : even over ≤ even_days long r
  pub days : even_days long r - even over ≡ r - sum (take over (months long))

pub found : (long : Bool) (r : ℕ) → r < sum (months long) → Over long r (over_of long r)
found long r u =
    let h = simp (and_T, leb-T, eqb-T) at (each_passes (in_month long) 0 (sum (months long)) (months-found long) r (omega arith) (omega arith)) in
    record { begun = h.0.0; short = h.0.1.0; last = h.0.1.1; fits = h.1.0; days = h.1.1 }

pub year_long : (long : Bool) → sum (months long) ≡ cond long 366 365
unfolding sum months
year_long true = refl
year_long false = refl

-- no month has more than 31 days
months-long : (long : Bool) → first (λ k. need (leb (get_or (months long) k 0) 31) 0 0 0) 0 12 ≡ accepted
unfolding first months
months-long true = refl
months-long false = refl

pub month_long : (long : Bool) (k : ℕ) → k ≤ 11 → get_or (months long) k 0 ≤ 31
month_long long k u = leb→le (get_or (months long) k 0) 31 (each_passes (λ k. leb (get_or (months long) k 0) 31) 0 12 (months-long long) k (omega arith) (omega arith))
