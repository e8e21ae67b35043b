-- The turns of the loop over a number's digits, digits in pairs and in halves, and the value of a number.
-- Assumes nothing.
use Prim.Native.Nat.{ℕ, zero, suc, ◌+◌, ◌*◌, ◌-◌, ◌^◌, ◌≤◌, ◌<◌, min}
use mathlib.Core.Bool.{Bool, true, false, cond, ◌&&◌}
use mathlib.Core.List.{List, [], ◌∷◌}
use mathlib.Core.Path.{◌≡◌, refl, sym, ap, ◌∙◌, subst}
use native.Mathlib.Omega.{arith}
use native.Mathlib.Numerals.{add-one}
use native.Mathlib.Nat.{add-zero, zero-add, suc-add, add-mul, mul_assoc, mul_comm, add_assoc, pow-suc}
use lib.Dec.{T, eqb}
use lib.IntN.{ℤ, pos, neg_ℤ, ◌-ℤ◌, +ℤ_idl}
use lib.ListN.{length, take, drop, get_or}
use lib.Seq.{drop-cons}
use lib.Signed.{mag}
use mir.Syntax.{w64}
use mir.Val.{SFits, to_z, of_z}
use mir.Facts.{to_z-of_z}
use borrow.Author.Tests.{eqb-true, eq-eqb, ne_eqb, lt-ltb}
use Rattle.std.specs.List.{fold}
use Rattle.std.proofs.lemmas.List.{drop_all}
use Rattle.layout.proofs.Tests.{is_true}
use Rattle.layout.specs.Bytes.{part, byte_at}
use Rattle.layout.specs.Text.{exactly, digit, fits, digits, number_of}
use Rattle.text.specs.Numbers.{AllDigits, capped, with_byte, number_in, whole_in}
use Rattle.text.specs.declared.Number.{Number}
use Rattle.text.proofs.Parts.{part-cons}
use Rattle.text.proofs.Runs.{passed}
use Rattle.text.proofs.Tests.{digit_bounds, not_failing}

-- ---- one byte more

module _ (m x : ℕ) where
  pub byte_point : m ≤ 9223372036854775808 → x ≡ 46 → m ≡ capped (with_byte m x)
  unfolding capped with_byte
  byte_point h e = rw (eq-eqb x 46 e) (omega arith)

  pub byte_digit : (x ≡ 46 → ⊥) → capped (with_byte m x) ≡ min (m * 10 + (x - 48)) 9223372036854775808
  unfolding capped with_byte
  byte_digit e = rw (ne_eqb x 46 e)

-- a magnitude may be capped before the next byte as well as behind it
capped_byte : (m x : ℕ) → capped (with_byte (capped m) x) ≡ capped (with_byte m x)
unfolding capped with_byte
capped_byte m x = go (eqb x 46)
  where
    go : (t : Bool) → min (cond t (min m 9223372036854775808) (min m 9223372036854775808 * 10 + (x - 48))) 9223372036854775808 ≡ min (cond t m (m * 10 + (x - 48))) 9223372036854775808
    go true = omega arith
    go false = omega arith

capped_same : (m n : ℕ) → capped m ≡ capped n → (x : ℕ) → capped (with_byte m x) ≡ capped (with_byte n x)
capped_same m n e x = sym (capped_byte m x) ∙ rw e (capped_byte n x)

digits_same : (xs : List ℕ) (m n : ℕ) → capped m ≡ capped n → capped (digits m xs) ≡ capped (digits n xs)
unfolding digits with_byte
digits_same [] m n e = e
digits_same (x ∷ xs) m n e = digits_same xs (with_byte m x) (with_byte n x) (capped_same m n e x)

capped-capped : (n : ℕ) → capped (capped n) ≡ capped n
unfolding capped
capped-capped n = omega arith

pub capped_most : (r n : ℕ) → r ≡ capped n → r ≤ 9223372036854775808
unfolding capped
capped_most r n e = omega arith

-- what is left of the digits from the i-th on, behind the magnitude so far
pub digit_next : (xs : List ℕ) (m r i : ℕ) → i < length xs → r ≡ capped (with_byte m (get_or xs i 0)) → capped (digits m (drop i xs)) ≡ capped (digits r (drop (i + 1) xs))
unfolding digits with_byte
digit_next xs m r i h e =
    rw (drop-cons xs i 0 h, e, add-one i) (digits_same (drop (suc i) xs) (with_byte m (get_or xs i 0)) (capped (with_byte m (get_or xs i 0))) (sym (capped-capped (with_byte m (get_or xs i 0)))))

pub digits_end : (xs : List ℕ) (m i : ℕ) → length xs ≤ i → m ≤ 9223372036854775808 → capped (digits m (drop i xs)) ≡ m
unfolding digits capped
digits_end xs m i h l = rw (drop_all i xs h) (omega arith)

pub number_is : (b : List ℕ) (at width m : ℕ) → 1 ≤ width → at + width ≤ length b → m ≡ capped (digits 0 (part b (at + 1) (at + width - (at + 1))))
    → ◌≡◌ {A = Number} (record { minus = eqb (get_or b at 0) 45; magnitude = m }) (number_in b at width)
unfolding number_in number_of
number_is b at width m h l e =
    let q : width ≡ at + width - at = omega arith in
    let k : part b at width ≡ get_or b at 0 ∷ part b (at + 1) (at + width - (at + 1)) = ap (part b at) q ∙ part-cons b at (at + width) (omega arith) l in
    rw (k, e)

-- ---- ten digits, and twenty

with_digit : (m x : ℕ) (xs : List ℕ) → T (fits digit x) → digits m (x ∷ xs) ≡ digits (m * 10 + (x - 48)) xs
unfolding digits
with_digit m x xs d = ap (λ (v : ℕ). digits v xs) (go (λ e. let k = digit_bounds x d in omega (arith, k.0)))
  where
    go : (x ≡ 46 → ⊥) → cond (eqb x 46) m (m * 10 + (x - 48)) ≡ m * 10 + (x - 48)
    go n = rw (ne_eqb x 46 n)

module _ (b : List ℕ) where
  part-suc : (at n : ℕ) → at < length b → part b at (suc n) ≡ get_or b at 0 ∷ part b (suc at) n
  unfolding part
  part-suc at n h = rw (drop-cons b at 0 h)

  -- the bytes up to `mid`, and k from there on
  digits_split : (n at mid k m : ℕ) → mid ≡ at + n → mid + k ≤ length b → digits m (part b at (n + k)) ≡ digits (digits m (part b at n)) (part b mid k)
  unfolding digits part
  digits_split zero at mid k m e h = rw (zero-add k, e, add-zero at)
  digits_split (suc n) at mid k m e h =
      rw (suc-add n k, part-suc at (n + k) (omega arith), part-suc at n (omega arith))
      (digits_split n (suc at) mid k (cond (eqb (get_or b at 0) 46) m (m * 10 + (get_or b at 0 - 48))) (omega arith) h)

  pub digits-none : (at m : ℕ) → digits m (part b at 0) ≡ m
  unfolding digits part
  digits-none at m = refl

  pub digit-first : (n at m : ℕ) → at < length b → T (fits digit (byte_at b at)) → digits m (part b at (suc n)) ≡ digits (m * 10 + (get_or b at 0 - 48)) (part b (suc at) n)
  unfolding byte_at
  digit-first n at m l d = rw (part-suc at n l) (with_digit m (get_or b at 0) _ d)

  -- digits behind a number
  digits-behind : (n at m : ℕ) → at + n ≤ length b → AllDigits b at n → digits m (part b at n) ≡ m * 10 ^ n + digits 0 (part b at n)
  digits-behind zero at m l h = rw (digits-none at m, digits-none at 0) (omega arith)
  digits-behind (suc n) at m l h =
      let d = get_or b at 0 - 48 in
      let here : (v : ℕ) → digits v (part b at (suc n)) ≡ digits (v * 10 + d) (part b (suc at) n) = λ v. digit-first n at v (omega arith) (h at (omega arith) (omega arith)) in
      let below : (v : ℕ) → digits v (part b (suc at) n) ≡ v * 10 ^ n + digits 0 (part b (suc at) n) = λ v. digits-behind n (suc at) v (omega arith) (λ k v w. h k (omega arith) (omega arith)) in
      here m ∙ below (m * 10 + d) ∙ rw (here 0, below (0 * 10 + d), pow-suc 10 n) (sums m d (10 ^ n) (digits 0 (part b (suc at) n)))
    where
      sums : (m d w r : ℕ) → (m * 10 + d) * w + r ≡ m * (w * 10) + ((0 * 10 + d) * w + r)
      sums m d w r =
          let q : 0 * 10 + d ≡ d = omega arith in
          rw (q, add-mul (m * 10) d w, mul_assoc m 10 w, mul_comm 10 w) (add_assoc (m * (w * 10)) (d * w) r)

  -- digits behind others
  pub in_two : (n at mid k : ℕ) → mid ≡ at + n → mid + k ≤ length b → AllDigits b mid k → digits 0 (part b at (n + k)) ≡ digits 0 (part b at n) * 10 ^ k + digits 0 (part b mid k)
  in_two n at mid k e l h = digits_split n at mid k 0 e l ∙ digits-behind k mid (digits 0 (part b at n)) l h

  pub pair_is : (at x y : ℕ) → at + 2 ≤ length b → AllDigits b at 2 → x ≡ get_or b at 0 - 48 → y ≡ get_or b (at + 1) 0 - 48 → x * 10 + y ≡ digits 0 (part b at 2)
  pair_is at x y l h e f =
      let q : at + 1 ≡ suc at = omega arith in
      let first = digit-first 1 at 0 (omega arith) (h at (omega arith) (omega arith)) in
      let second = digit-first 0 (suc at) (0 * 10 + (get_or b at 0 - 48)) (omega arith) (h (suc at) (omega arith) (omega arith)) in
      rw (first, second, digits-none, e, f, q) (omega arith)

  pub pairs_are : (at u v w x y : ℕ) → at + 10 ≤ length b → AllDigits b at 10
      → u ≡ digits 0 (part b at 2) → v ≡ digits 0 (part b (at + 2) 2) → w ≡ digits 0 (part b (at + 4) 2) → x ≡ digits 0 (part b (at + 6) 2) → y ≡ digits 0 (part b (at + 8) 2)
      → (u * 10000 + v * 100 + w) * 10000 + (x * 100 + y) ≡ digits 0 (part b at 10)
  pairs_are at u v w x y l h e f g i j =
      let from : (n : ℕ) → n ≤ 10 → AllDigits b (at + n) (10 - n) = λ n m k o p. h k (omega arith) (omega arith) in
      omega (
        arith,
        in_two 2 at (at + 2) 8 refl (omega arith) (from 2 (omega arith)),
        in_two 2 (at + 2) (at + 4) 6 (omega arith) (omega arith) (from 4 (omega arith)),
        in_two 2 (at + 4) (at + 6) 4 (omega arith) (omega arith) (from 6 (omega arith)),
        in_two 2 (at + 6) (at + 8) 2 (omega arith) (omega arith) (from 8 (omega arith)),
      )

  abbrev AllZeros : ℕ → ℕ → Type 0
  AllZeros at n = (k : ℕ) → at ≤ k → k < at + n → get_or b k 0 ≡ 48

  zero-digit : (k : ℕ) → get_or b k 0 ≡ 48 → T (fits digit (byte_at b k))
  unfolding byte_at fits
  zero-digit k e = rw e tt

  digits-zero : (n at : ℕ) → at + n ≤ length b → AllZeros at n → digits 0 (part b at n) ≡ 0
  digits-zero zero at l h = digits-none at 0
  digits-zero (suc n) at l h =
      let here = h at (omega arith) (omega arith) in
      digit-first n at 0 (omega arith) (zero-digit at here)
      ∙ rw here (digits-zero n (suc at) (omega arith) (λ k v w. h k (omega arith) (omega arith)))

  -- the n bytes of from..to that a test as a whole passed
  module _ (from to n : ℕ) (all : Bool) where
    pub all_digits : all ≡ fold (λ a x. a && fits digit x) true (take (to - from) (drop from b)) → all ≡ true → to ≤ length b → to ≡ from + n → AllDigits b from n
    all_digits e h l q k v u = not_failing (fits digit) b k (passed (fits digit) b from to all e h l k v (omega arith))

    pub all_zeros : all ≡ fold (λ a x. a && fits (exactly 48) x) true (take (to - from) (drop from b)) → all ≡ true → to ≤ length b → to ≡ from + n → AllZeros from n
    unfolding byte_at fits
    all_zeros e h l q k v u = eqb-true (get_or b k 0) 48 (is_true _ (not_failing (fits (exactly 48)) b k (passed (fits (exactly 48)) b from to all e h l k v (omega arith))))

  module _ (from to : ℕ) where
    pub ten-is : (r : ℕ) → to - from ≡ 10 → (r ≡ digits 0 (part b from 10)) × (r < 10 ^ 10) → r ≡ capped (digits 0 (part b from (to - from)))
    unfolding capped
    ten-is r w e = rw (w, ← e.0) (omega (arith, e.1))

    pub twenty_is : (r : ℕ) → to - from ≡ 20 → from + 20 ≤ length b → AllZeros from 10 → AllDigits b (from + 10) 10
        → (r ≡ digits 0 (part b (from + 10) 10)) × (r < 10 ^ 10) → r ≡ capped (digits 0 (part b from (to - from)))
    unfolding capped
    twenty_is r w l zeros h e = rw (w, in_two 10 from (from + 10) 10 refl (omega arith) h, digits-zero 10 from (omega arith) zeros, ← e.0) (omega (arith, e.1))

-- ---- the value

is_pos : (m : ℕ) → m < 9223372036854775808 → to_z w64 m ≡ pos m
is_pos m h = simp (lt-ltb m 9223372036854775808 h)

mag_neg : (m : ℕ) → mag (neg_ℤ (pos m)) ≤ m
mag_neg zero = omega arith
mag_neg (suc m) = omega arith

zero_minus : (m : ℕ) → m < 9223372036854775808 → pos 0 -ℤ to_z w64 m ≡ neg_ℤ (pos m)
zero_minus m h = ap (λ (z : ℤ). pos 0 -ℤ z) (is_pos m h) ∙ +ℤ_idl (neg_ℤ (pos m))

pub minus-fits : (m : ℕ) → m < 9223372036854775808 → SFits w64 (pos 0 -ℤ to_z w64 m)
minus-fits m h = subst (λ (z : ℤ). SFits w64 z) (sym (zero_minus m h)) (record { sfits = omega (arith, mag_neg m) })

module _ (n : Number) (h : n.magnitude < 9223372036854775808) where
  pub minus_whole : n.minus ≡ true → to_z w64 (of_z w64 (pos 0 -ℤ to_z w64 n.magnitude)) ≡ whole_in n
  unfolding whole_in
  minus_whole e = rw e (to_z-of_z (minus-fits n.magnitude h) ∙ zero_minus n.magnitude h)

  pub plus_whole : n.minus ≡ false → to_z w64 n.magnitude ≡ whole_in n
  unfolding whole_in
  plus_whole e = rw e (is_pos n.magnitude h)
