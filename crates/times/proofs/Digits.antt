-- A number in so many digits, and the number that digits are: each is found again from the other.
-- Assumes nothing.
use Prim.Native.Nat.{ℕ, zero, suc, ◌+◌, ◌*◌, ◌-◌, ◌/◌, ◌%◌, ◌^◌, ◌≤◌, ◌<◌}
use mathlib.Core.Bool.{true, cond}
use mathlib.Core.List.{List, [], ◌∷◌, ◌++◌}
use mathlib.Core.Path.{◌≡◌, refl, sym, ◌∙◌}
use native.Mathlib.Omega.{arith}
use lib.Dec.{T, leb, eqb}
use lib.ListN.{length, drop, get_or, length-drop}
use lib.Seq.{take-suc, get_or-drop, take-add, drop-drop}
use borrow.Author.Tests.{ne_eqb, le-leb}
use Rattle.layout.specs.Bytes.{part, byte_at}
use Rattle.layout.specs.Text.{digit, fits, digits}
use Rattle.text.specs.Numbers.{AllDigits}
use Rattle.text.proofs.Tests.{digit_bounds}
use Rattle.text.proofs.Numbers.{digits-none, digit-first, in_two}
use Rattle.times.specs.Times.{in_digits}

-- ---- from a number to its digits and back

digits_last : (s x : ℕ) (a : List ℕ) → (x ≡ 46 → ⊥) → digits s (a ++ x ∷ []) ≡ digits s a * 10 + (x - 48)
unfolding digits
digits_last s x [] n = rw (ne_eqb x 46 n)
digits_last s x (y ∷ a) n = digits_last (cond (eqb y 46) s (s * 10 + (y - 48))) x a n

no_digits : digits 0 [] ≡ 0
unfolding digits
no_digits = refl

pub number_back : (w n : ℕ) → n < 10 ^ w → digits 0 (in_digits w n) ≡ n
unfolding in_digits
number_back zero n h = no_digits ∙ omega arith
number_back (suc w) n h = rw (digits_last 0 (48 + n % 10) (in_digits w (n / 10)) (λ e. omega arith), number_back w (n / 10) (omega arith)) (omega arith)

pub least_digit : (n : ℕ) → leb 48 (48 + n % 10) ≡ true
least_digit n = le-leb 48 (48 + n % 10) (omega arith)

pub most-digit : (n : ℕ) → leb (48 + n % 10) 57 ≡ true
most-digit n = le-leb (48 + n % 10) 57 (omega arith)

-- ---- from digits to their number and back

module _ (b : List ℕ) where
  part_none : (at : ℕ) → part b at 0 ≡ []
  unfolding part
  part_none at = refl

  pub part-last : (at w : ℕ) → at + suc w ≤ length b → part b at (suc w) ≡ part b at w ++ get_or b (at + w) 0 ∷ []
  unfolding part
  part-last at w l =
      let h : w < length (drop at b) = omega (arith, length-drop at b) in
      take-suc (drop at b) w 0 h ∙ rw (get_or-drop at b w 0)

  bounded : (k : ℕ) → T (fits digit (byte_at b k)) → (48 ≤ get_or b k 0) × (get_or b k 0 ≤ 57)
  unfolding byte_at
  bounded k h = digit_bounds (get_or b k 0) h

  -- one digit more
  number-last : (at w : ℕ) → at + suc w ≤ length b → AllDigits b at (suc w) → digits 0 (part b at (suc w)) ≡ digits 0 (part b at w) * 10 + (get_or b (at + w) 0 - 48)
  number-last at w l h =
      let one : AllDigits b (at + w) 1 = λ k u v. h k (omega arith) (omega arith) in
      let last = digit-first b 0 (at + w) 0 (omega arith) (one (at + w) (omega arith) (omega arith)) ∙ digits-none b (suc (at + w)) (0 * 10 + (get_or b (at + w) 0 - 48)) in
      let both = in_two b w at (at + w) 1 refl (omega arith) one in
      let e : w + 1 ≡ suc w = omega arith in
      rw (← e, both, last) (omega arith)

  pub digits_back : (w at : ℕ) → at + w ≤ length b → AllDigits b at w → in_digits w (digits 0 (part b at w)) ≡ part b at w
  unfolding in_digits
  digits_back zero at l h = sym (part_none at)
  digits_back (suc w) at l h =
      let x = get_or b (at + w) 0 in
      let n = digits 0 (part b at w) in
      let bounds = bounded (at + w) (h (at + w) (omega arith) (omega arith)) in
      let front : (n * 10 + (x - 48)) / 10 ≡ n = omega (arith, bounds.1) in
      let back : 48 + (n * 10 + (x - 48)) % 10 ≡ x = omega (arith, bounds.0, bounds.1) in
      rw (number-last at w l h, front, back, digits_back w at (omega arith) (λ k u v. h k (omega arith) (omega arith)), part-last at w l)

  -- two parts, one behind the other
  pub part_join : (at n k : ℕ) → part b at n ++ part b (at + n) k ≡ part b at (n + k)
  unfolding part
  part_join at n k = rw (← drop-drop n at b) (sym (take-add n k (drop at b)))
