-- A text of the form, read by its places.
-- Assumes nothing.
use Prim.Native.Nat.{ℕ, ◌+◌, ◌*◌, ◌≤◌}
use mathlib.Core.Bool.{Bool, true, false, and-false}
use mathlib.Core.List.{List, [], ◌∷◌}
use mathlib.Core.Path.{◌≡◌, refl}
use native.Mathlib.Omega.{arith}
use lib.Dec.{T, leb}
use lib.ListN.{length, get_or}
use lib.Seq.{drop-cons}
use Rattle.std.specs.Prelude.{Option, Some, None, Ok, Err, ok_or}
use Rattle.std.specs.Bool.{then_some}
use Rattle.layout.specs.Bytes.{part}
use Rattle.layout.specs.Text.{digits}
use Rattle.text.specs.Numbers.{AllDigits}
use Rattle.text.proofs.Numbers.{in_two}
use Rattle.calendar.specs.declared.Date.{Date}
use Rattle.times.specs.declared.Moment.{Moment}
use Rattle.calendar.specs.Calendar.{valid_date}
use Rattle.times.specs.Times.{valid_moment, month_in, date_in, moment_in}
use Rattle.times.specs.Formed.{formed}
use Rattle.times.proofs.Written.{Form, form}

-- ---- a value kept where a test passes

pub kept : {A : Type 0} (b : Bool) (x y : A) → then_some b x ≡ Some y → (b ≡ true) × (y ≡ x)
kept true x y h = (refl, cc)
kept false x y h = cc

pub not_kept : {A : Type 0} (b : Bool) (x : A) → then_some b x ≡ None → b ≡ false
not_kept true x h = cc
not_kept false x h = refl

-- and a refusal where none is
module _ {A E : Type 0} (o : Option A) (b : Bool) (x : A) (r : E) (e : o ≡ then_some b x) where
  pub kept_or : (y : A) → ok_or o r ≡ Ok y → (b ≡ true) × (y ≡ x)
  kept_or y h = go b (rw e at h)
    where
      go : (b : Bool) → ok_or (then_some b x) r ≡ Ok y → (b ≡ true) × (y ≡ x)
      go true h = (refl, cc)
      go false h = cc

  pub none_kept : (s : E) → ok_or o r ≡ Err s → b ≡ false
  none_kept s h = go b (rw e at h)
    where
      go : (b : Bool) → ok_or (then_some b x) r ≡ Err s → b ≡ false
      go true h = cc
      go false h = refl

-- ---- parts of a text

pub three_letters : (t : List ℕ) → length t ≡ 27 → part t 3 3 ≡ get_or t 3 0 ∷ get_or t 4 0 ∷ get_or t 5 0 ∷ []
unfolding part
three_letters t h = rw (drop-cons t 3 0 (omega arith), drop-cons t 4 0 (omega arith), drop-cons t 5 0 (omega arith))

module _ (t : List ℕ) (long : length t ≡ 27) (f : Form t) where
  -- two of a run of digits
  two_of : (at n k : ℕ) → AllDigits t at n → at ≤ k → k + 2 ≤ at + n → at + n ≤ 27 → (k + 2 ≤ length t) × AllDigits t k 2
  two_of at n k h l u v = (omega arith, λ i a b. h i (omega arith) (omega arith))

  year_is : (h l : ℕ) → h ≡ digits 0 (part t 7 2) → l ≡ digits 0 (part t 9 2) → h * 100 + l ≡ digits 0 (part t 7 4)
  year_is h l e g = omega (arith, in_two t 2 7 9 2 refl (omega arith) (two_of 7 4 9 f.year (omega arith) (omega arith) (omega arith)).1)

  microsecond-is : (h m l : ℕ) → h ≡ digits 0 (part t 21 2) → m ≡ digits 0 (part t 23 2) → l ≡ digits 0 (part t 25 2) → (h * 100 + m) * 100 + l ≡ digits 0 (part t 21 6)
  microsecond-is h m l e g i =
      omega (
        arith,
        in_two t 2 21 23 2 refl (omega arith) (two_of 21 6 23 f.microsecond (omega arith) (omega arith) (omega arith)).1,
        in_two t 4 21 25 2 refl (omega arith) (two_of 21 6 25 f.microsecond (omega arith) (omega arith) (omega arith)).1,
      )

  pub date-read : (h l m d : ℕ) → h ≡ digits 0 (part t 7 2) → l ≡ digits 0 (part t 9 2) → m ≡ month_in (part t 3 3) → d ≡ digits 0 (part t 0 2)
      → ◌≡◌ {A = Date} (record { year = h * 100 + l; month = m; day = d }) (date_in t)
  unfolding date_in
  date-read h l m d e g i k = λ j. record { year = year_is h l e g j; month = i j; day = k j }

  pub moment_read : (date : Date) (h m s u v w : ℕ) → date ≡ date_in t → h ≡ digits 0 (part t 12 2) → m ≡ digits 0 (part t 15 2) → s ≡ digits 0 (part t 18 2)
      → u ≡ digits 0 (part t 21 2) → v ≡ digits 0 (part t 23 2) → w ≡ digits 0 (part t 25 2)
      → ◌≡◌ {A = Moment} (record { date = date; hour = h; minute = m; second = s; microsecond = (u * 100 + v) * 100 + w }) (moment_in t)
  unfolding moment_in
  moment_read date h m s u v w d e g i k l o = λ j. record { date = d j; hour = e j; minute = g j; second = i j; microsecond = microsecond-is u v w k l o j }

  -- a text that names no month says no moment
  pub no_month : leb (month_in (part t 3 3)) 12 ≡ false → valid_moment (moment_in t) ≡ false
  unfolding valid_moment valid_date moment_in date_in
  no_month h = rw (h, and-false, and-false)

-- the digits of a text of the form, two by two
pub record Pairs (t : List ℕ) : Type 0 where
  pub day : AllDigits t 0 2
  pub century : AllDigits t 7 2
  pub year : AllDigits t 9 2
  pub hour : AllDigits t 12 2
  pub minute : AllDigits t 15 2
  pub second : AllDigits t 18 2
  pub high : AllDigits t 21 2
  pub middle : AllDigits t 23 2
  pub low : AllDigits t 25 2

pub pairs : (t : List ℕ) → T (formed t) → Pairs t
pairs t h =
    let f = form t h in
    record {
      day = f.day;
      century = λ k u v. f.year k (omega arith) (omega arith);
      year = λ k u v. f.year k (omega arith) (omega arith);
      hour = f.hour;
      minute = f.minute;
      second = f.second;
      high = λ k u v. f.microsecond k (omega arith) (omega arith);
      middle = λ k u v. f.microsecond k (omega arith) (omega arith);
      low = λ k u v. f.microsecond k (omega arith) (omega arith);
    }
