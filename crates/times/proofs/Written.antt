-- A moment's text is of the form that the code tests and is read as that moment; a text of the form is the text of the moment that it is read as.
-- Assumes nothing.
use Prim.Native.Nat.{ℕ, suc, ◌+◌, ◌*◌, ◌-◌, ◌/◌, ◌%◌, ◌≤◌, ◌<◌}
use mathlib.Core.Bool.{Bool, true, false, ◌&&◌, not, false≢true}
use mathlib.Core.List.{List, [], ◌∷◌, ◌++◌}
use mathlib.Core.Path.{◌≡◌, refl, sym, ap, ◌∙◌}
use native.Mathlib.Omega.{arith}
use borrow.Author.Tests.{le-leb}
use lib.Dec.{T, leb, eqb, leb→le, le→leb, eqb→eq}
use lib.ListN.{length}
use lib.Seq.{take_all}
use Rattle.layout.specs.Bytes.{bytes, part, byte_at, within}
use Rattle.layout.specs.Answer.{need, accepted}
use Rattle.layout.specs.Search.{first, some}
use Rattle.layout.specs.Text.{fits, digits}
use Rattle.layout.proofs.Laws.{and_T}
use Rattle.layout.proofs.Tests.{is_true}
use Rattle.text.specs.Numbers.{AllDigits}
use Rattle.text.proofs.Runs.{tested}
use Rattle.calendar.proofs.Days.{each_passes}
use Rattle.times.specs.declared.Moment.{Moment}
use Rattle.times.specs.Times.{in_digits, month_name, date_text, clock_text, text_of, same_bytes, month_in, date_in, moment_in}
use Rattle.times.specs.Formed.{lowest, highest, outside, formed}
use Rattle.times.proofs.Digits.{number_back, least_digit, most-digit, part-last, digits_back, part_join}
use Rattle.times.proofs.Months.{same_is, name_spelled, capitals, month_back, name_back}

-- ---- digits in pairs

module _ (n : ℕ) where
  tens : n % 100 / 10 % 10 ≡ n / 10 % 10
  tens = omega arith

  ones : n % 100 % 10 ≡ n % 10
  ones = omega arith

  hundred : n / 100 ≡ n / 10 / 10
  hundred = omega arith

  hundreds : n / 100 / 10 ≡ n / 10 / 10 / 10
  hundreds = omega arith

  last_hundreds : n % 10000 / 100 / 10 % 10 ≡ n / 10 / 10 / 10 % 10
  last_hundreds = omega arith

  last_hundred : n % 10000 / 100 % 10 ≡ n / 10 / 10 % 10
  last_hundred = omega arith

  last_tens : n % 10000 % 100 / 10 % 10 ≡ n / 10 % 10
  last_tens = omega arith

  last_ones : n % 10000 % 100 % 10 ≡ n % 10
  last_ones = omega arith

  ten_thousand : n / 10000 ≡ n / 10 / 10 / 10 / 10
  ten_thousand = omega arith

-- a pair as the code works it out, the first digit in the lower byte
abbrev pair_of : ℕ → ℕ
pair_of n = 12336 + 256 * n - 2559 * (205 * n / 2048)

abbrev paired : ℕ → Bool
paired n = same_bytes (pair_of n % 256 ∷ pair_of n / 256 % 256 ∷ []) (in_digits 2 n)

all_paired : first (λ n. need (paired n) 0 0 0) 0 100 ≡ accepted
unfolding first same_bytes in_digits
all_paired = refl

pub in_pair : (n : ℕ) → n < 100 → pair_of n % 256 ∷ pair_of n / 256 % 256 ∷ [] ≡ in_digits 2 n
in_pair n h = same_is (pair_of n % 256 ∷ pair_of n / 256 % 256 ∷ []) (in_digits 2 n) (each_passes paired 0 100 all_paired n (omega arith) (omega arith))

-- ---- the 27 bytes one by one

-- with the month's letters
abbrev spelled : ℕ → ℕ → ℕ → Moment → List ℕ
spelled a b c m =
    in_digits 2 m.date.day ++ 45 ∷ a ∷ b ∷ c ∷ 45 ∷ in_digits 4 m.date.year ++ 32 ∷ in_digits 2 m.hour ++ 58 ∷ in_digits 2 m.minute
    ++ 58 ∷ in_digits 2 m.second ++ 46 ∷ in_digits 6 m.microsecond

abbrev spelled_out : Moment → List ℕ
spelled_out m = spelled (byte_at (month_name m.date.month) 0) (byte_at (month_name m.date.month) 1) (byte_at (month_name m.date.month) 2) m

module _ (m : Moment) (january : 1 ≤ m.date.month) (december : m.date.month ≤ 12) where
  pub is_spelled : text_of m ≡ spelled_out m
  unfolding text_of date_text clock_text in_digits
  is_spelled = go (month_name m.date.month) (name_spelled m.date.month january december)
    where
      go : (name : List ℕ) → name ≡ byte_at name 0 ∷ byte_at name 1 ∷ byte_at name 2 ∷ []
          → in_digits 2 m.date.day ++ bytes "-" ++ name ++ bytes "-" ++ in_digits 4 m.date.year ++ bytes " " ++ clock_text m ≡ spelled (byte_at name 0) (byte_at name 1) (byte_at name 2) m
      go name e = ap (λ (n : List ℕ). in_digits 2 m.date.day ++ bytes "-" ++ n ++ bytes "-" ++ in_digits 4 m.date.year ++ bytes " " ++ clock_text m) e

  pub text-long : length (text_of m) ≡ 27
  unfolding in_digits
  text-long = rw is_spelled

  -- as the code writes them, in pairs
  pub as_written : (48 + m.date.day / 10 % 10) ∷ (48 + m.date.day % 10) ∷ 45
      ∷ byte_at (month_name m.date.month) 0 ∷ byte_at (month_name m.date.month) 1 ∷ byte_at (month_name m.date.month) 2 ∷ 45
      ∷ (48 + m.date.year / 100 / 10 % 10) ∷ (48 + m.date.year / 100 % 10) ∷ (48 + m.date.year % 100 / 10 % 10) ∷ (48 + m.date.year % 100 % 10) ∷ 32
      ∷ (48 + m.hour / 10 % 10) ∷ (48 + m.hour % 10) ∷ 58 ∷ (48 + m.minute / 10 % 10) ∷ (48 + m.minute % 10) ∷ 58
      ∷ (48 + m.second / 10 % 10) ∷ (48 + m.second % 10) ∷ 46
      ∷ (48 + m.microsecond / 10000 / 10 % 10) ∷ (48 + m.microsecond / 10000 % 10) ∷ (48 + m.microsecond % 10000 / 100 / 10 % 10)
      ∷ (48 + m.microsecond % 10000 / 100 % 10) ∷ (48 + m.microsecond % 10000 % 100 / 10 % 10) ∷ (48 + m.microsecond % 10000 % 100 % 10) ∷ [] ≡ text_of m
  unfolding in_digits
  as_written =
      let y = m.date.year in
      let u = m.microsecond in
      rw (is_spelled, tens y, ones y, hundreds y, hundred y, last_hundreds u, last_hundred u, last_tens u, last_ones u, ten_thousand u)

  -- ---- it is formed

  pub is-formed : formed (text_of m) ≡ true
  unfolding formed some outside lowest highest byte_at in_digits
  is-formed =
      let a = capitals m.date.month january december in
      let at : ℕ → ℕ = λ i. byte_at (month_name m.date.month) i in
      rw (
        is_spelled,
        le-leb 65 (at 0) a.0.0,
        le-leb (at 0) 90 a.0.1,
        le-leb 65 (at 1) a.1.0.0,
        le-leb (at 1) 90 a.1.0.1,
        le-leb 65 (at 2) a.1.1.0,
        le-leb (at 2) 90 a.1.1.1,
      ) (simp (least_digit, most-digit) refl)

  -- ---- it is read as the moment

  part_day : part (text_of m) 0 2 ≡ in_digits 2 m.date.day
  unfolding part in_digits
  part_day = rw is_spelled

  part_month : part (text_of m) 3 3 ≡ month_name m.date.month
  unfolding part in_digits
  part_month = rw is_spelled (sym (name_spelled m.date.month january december))

  part_year : part (text_of m) 7 4 ≡ in_digits 4 m.date.year
  unfolding part in_digits
  part_year = rw is_spelled

  part-hour : part (text_of m) 12 2 ≡ in_digits 2 m.hour
  unfolding part in_digits
  part-hour = rw is_spelled

  part-minute : part (text_of m) 15 2 ≡ in_digits 2 m.minute
  unfolding part in_digits
  part-minute = rw is_spelled

  part-second : part (text_of m) 18 2 ≡ in_digits 2 m.second
  unfolding part in_digits
  part-second = rw is_spelled

  part-microsecond : part (text_of m) 21 6 ≡ in_digits 6 m.microsecond
  unfolding part in_digits
  part-microsecond = rw is_spelled

  module _ (day : m.date.day < 100) (year : m.date.year < 10000) (hour : m.hour < 100) (minute : m.minute < 100) (second : m.second < 100)
      (microsecond : m.microsecond < 1000000) where
    pub moment_back : moment_in (text_of m) ≡ m
    unfolding moment_in date_in
    moment_back = λ j. record {
      date = record {
        year = (ap (digits 0) part_year ∙ number_back 4 m.date.year year) j;
        month = (ap month_in part_month ∙ month_back m.date.month january december) j;
        day = (ap (digits 0) part_day ∙ number_back 2 m.date.day day) j;
      };
      hour = (ap (digits 0) part-hour ∙ number_back 2 m.hour hour) j;
      minute = (ap (digits 0) part-minute ∙ number_back 2 m.minute minute) j;
      second = (ap (digits 0) part-second ∙ number_back 2 m.second second) j;
      microsecond = (ap (digits 0) part-microsecond ∙ number_back 6 m.microsecond microsecond) j;
    }

-- ---- a text of the form, read

-- what is so of its bytes
pub record Form (t : List ℕ) : Type 0 where
  pub day : AllDigits t 0 2
  pub dash : byte_at t 2 ≡ 45
  pub second_dash : byte_at t 6 ≡ 45
  pub year : AllDigits t 7 4
  pub blank : byte_at t 11 ≡ 32
  pub hour : AllDigits t 12 2
  pub colon : byte_at t 14 ≡ 58
  pub minute : AllDigits t 15 2
  pub second_colon : byte_at t 17 ≡ 58
  pub second : AllDigits t 18 2
  pub point : byte_at t 20 ≡ 46
  pub microsecond : AllDigits t 21 6

abbrev digit_place : ℕ → Bool
digit_place k = eqb (byte_at lowest k) 48 && eqb (byte_at highest k) 57

module _ (t : List ℕ) (h : T (formed t)) where
  abbrev Placed : ℕ → Type 0
  Placed k = (byte_at lowest k ≤ byte_at t k) × (byte_at t k ≤ byte_at highest k)

  inside : (k : ℕ) → outside t k ≡ false → Placed k
  unfolding outside
  inside k e =
      let x = byte_at t k in
      let r = (and_T (leb (byte_at lowest k) x) (leb x (byte_at highest k))).0 (passed (within (byte_at lowest k) (byte_at highest k) x) e) in
      (leb→le (byte_at lowest k) x r.0, leb→le x (byte_at highest k) r.1)
    where
      passed : (w : Bool) → not w ≡ false → T w
      passed true q = tt
      passed false q = absurd (false≢true (sym q))

  placed : (k : ℕ) → k < 27 → Placed k
  unfolding formed
  placed k u = inside k (tested (outside t) 27 0 (not (some (outside t) 0 27)) refl (is_true (not (some (outside t) 0 27)) h) k (omega arith) (omega arith))

  digits-told : (at n : ℕ) → at + n ≤ 27 → first (λ k. need (digit_place k) 0 0 0) at n ≡ accepted → AllDigits t at n
  unfolding fits
  digits-told at n u all k l v =
      let e = (and_T (eqb (byte_at lowest k) 48) (eqb (byte_at highest k) 57)).0 (each_passes digit_place at n all k l v) in
      let p = placed k (omega arith) in
      (and_T (leb 48 (byte_at t k)) (leb (byte_at t k) 57)).1
      (le→leb 48 (byte_at t k) (omega (arith, eqb→eq (byte_at lowest k) 48 e.0, p.0)), le→leb (byte_at t k) 57 (omega (arith, eqb→eq (byte_at highest k) 57 e.1, p.1)))

  byte_told : (at x : ℕ) → at < 27 → byte_at lowest at ≡ x → byte_at highest at ≡ x → byte_at t at ≡ x
  byte_told at x u e f = let p = placed at u in omega (arith, p.0, p.1)

  pub form : Form t
  unfolding first lowest highest byte_at
  form = record {
    day = digits-told 0 2 (omega arith) refl;
    dash = byte_told 2 45 (omega arith) refl refl;
    second_dash = byte_told 6 45 (omega arith) refl refl;
    year = digits-told 7 4 (omega arith) refl;
    blank = byte_told 11 32 (omega arith) refl refl;
    hour = digits-told 12 2 (omega arith) refl;
    colon = byte_told 14 58 (omega arith) refl refl;
    minute = digits-told 15 2 (omega arith) refl;
    second_colon = byte_told 17 58 (omega arith) refl refl;
    second = digits-told 18 2 (omega arith) refl;
    point = byte_told 20 46 (omega arith) refl refl;
    microsecond = digits-told 21 6 (omega arith) refl;
  }

module _ (t : List ℕ) where
  module _ (long : length t ≡ 27) where
    -- a part, and the byte behind it
    byte_behind : (at n x : ℕ) → at + suc n ≤ 27 → byte_at t (at + n) ≡ x → part t at n ++ x ∷ [] ≡ part t at (suc n)
    unfolding byte_at
    byte_behind at n x u e = rw (← e) (sym (part-last t at n (omega arith)))

    whole : part t 0 27 ≡ t
    unfolding part
    whole = take_all 27 t (omega arith)

    module _ (f : Form t) (december : month_in (part t 3 3) ≤ 12) where
      date_back : date_text (moment_in t).date ≡ part t 0 11
      unfolding date_text moment_in date_in
      date_back =
          rw (
            digits_back t 2 0 (omega arith) f.day,
            byte_behind 0 2 45 (omega arith) f.dash,
            name_back (part t 3 3) december,
            part_join t 0 3 3,
            byte_behind 0 6 45 (omega arith) f.second_dash,
            digits_back t 4 7 (omega arith) f.year,
            part_join t 0 7 4,
          )

      clock_back : clock_text (moment_in t) ≡ part t 12 15
      unfolding clock_text moment_in
      clock_back =
          rw (
            digits_back t 2 12 (omega arith) f.hour,
            byte_behind 12 2 58 (omega arith) f.colon,
            digits_back t 2 15 (omega arith) f.minute,
            part_join t 12 3 2,
            byte_behind 12 5 58 (omega arith) f.second_colon,
            digits_back t 2 18 (omega arith) f.second,
            part_join t 12 6 2,
            byte_behind 12 8 46 (omega arith) f.point,
            digits_back t 6 21 (omega arith) f.microsecond,
            part_join t 12 9 6,
          )

      pub text_back : text_of (moment_in t) ≡ t
      unfolding text_of
      text_back = rw (date_back, byte_behind 0 11 32 (omega arith) f.blank, clock_back, part_join t 0 12 15) whole
