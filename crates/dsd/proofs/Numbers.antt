-- Tests of a number by its sign and magnitude, and of a count and two sizes without their product.
-- Assumes nothing.
use Prim.Native.Nat.{ℕ, zero, suc, ◌*◌, ◌/◌, ◌%◌}
use mathlib.Core.Bool.{Bool, true, false, cond, ◌&&◌, ◌||◌, not, or-true}
use mathlib.Core.Path.{◌≡◌, refl, sym, ap, ◌∙◌}
use native.Mathlib.Omega.{arith}
use native.Mathlib.Nat.{div-add-mod', mul-mod_left, mul-div_cancel}
use lib.Dec.{leb, ltb, eqb}
use lib.IntN.{ℤ, pos, negsuc, neg_ℤ}
use lib.Signed.{le_z, lt_z}
use borrow.Author.Tests.{eq-eqb, ne_eqb, eqb-true, le-leb, lt-leb, not-true, not-false}
use Rattle.layout.specs.Text.{Number, whole}
use Rattle.layout.specs.Entries.{eq_z}

-- two tests that pass together
pub same_test : (x y : Bool) → (x ≡ true → y ≡ true) → (y ≡ true → x ≡ true) → x ≡ y
same_test true y f g = sym (f refl)
same_test false true f g = g refl
same_test false false f g = refl

abbrev value : Bool → ℕ → ℤ
value m k = cond m (neg_ℤ (pos k)) (pos k)

zero-value : (m : Bool) (k : ℕ) → eq_z (value m k) (pos 0) ≡ eqb k 0
zero-value false k = refl
zero-value true zero = refl
zero-value true (suc k) = sym (ne_eqb (suc k) 0 (λ e. omega arith))

not_negative : (m : Bool) (k : ℕ) → le_z (pos 0) (value m k) ≡ (eqb k 0 || not m)
not_negative false k = rw (le-leb 0 k (omega arith), or-true)
not_negative true zero = refl
not_negative true (suc k) = rw (ne_eqb (suc k) 0 (λ e. omega arith))

least : (m : Bool) (k : ℕ) → le_z (negsuc 0) (value m k) ≡ (not m || leb k 1)
least false k = refl
least true zero = refl
least true (suc zero) = refl
least true (suc (suc k)) = rw (lt-leb (suc k) 0 (omega arith), lt-leb (suc (suc k)) 1 (omega arith))

at_least_one : (m : Bool) (k : ℕ) → le_z (pos 1) (value m k) ≡ (not m && leb 1 k)
at_least_one false k = refl
at_least_one true zero = refl
at_least_one true (suc k) = refl

above_zero : (m : Bool) (k : ℕ) → lt_z (pos 0) (value m k) ≡ (not m && ltb 0 k)
above_zero false k = refl
above_zero true zero = refl
above_zero true (suc k) = refl

minus_one : (m : Bool) (k : ℕ) → eq_z (value m k) (negsuc 0) ≡ (m && eqb k 1)
minus_one false k = refl
minus_one true zero = refl
minus_one true (suc zero) = refl
minus_one true (suc (suc k)) = rw (ne_eqb (suc k) 0 (λ e. omega arith), ne_eqb (suc (suc k)) 1 (λ e. omega arith))

module _ (n : Number) where
  pub is_zero : eq_z (whole n) (pos 0) ≡ eqb n.magnitude 0
  unfolding whole
  is_zero = zero-value n.minus n.magnitude

  pub from_zero : le_z (pos 0) (whole n) ≡ (eqb n.magnitude 0 || not n.minus)
  unfolding whole
  from_zero = not_negative n.minus n.magnitude

  pub from_minus_one : le_z (negsuc 0) (whole n) ≡ (not n.minus || leb n.magnitude 1)
  unfolding whole
  from_minus_one = least n.minus n.magnitude

  pub from_one : le_z (pos 1) (whole n) ≡ (not n.minus && leb 1 n.magnitude)
  unfolding whole
  from_one = at_least_one n.minus n.magnitude

  -- a number with a minus is not at least one
  pub minus_below : n.minus ≡ true → (rest : Bool) → false ≡ (le_z (pos 1) (whole n) && rest)
  minus_below h rest = rw (from_one, h)

  pub above : lt_z (pos 0) (whole n) ≡ (not n.minus && ltb 0 n.magnitude)
  unfolding whole
  above = above_zero n.minus n.magnitude

  pub is-minus-one : eq_z (whole n) (negsuc 0) ≡ (n.minus && eqb n.magnitude 1)
  unfolding whole
  is-minus-one = minus_one n.minus n.magnitude

-- ---- a count of records of one size fills a set exactly when the size divides the set's with that quotient

module _ (count size set : ℕ) (filled : size ≡ 0 → ⊥) where
  pub no_quotient : (set % size ≡ 0 → ⊥) → eqb (count * size) set ≡ false
  no_quotient h = ne_eqb (count * size) set (λ e. h (ap (λ (k : ℕ). k % size) (sym e) ∙ mul-mod_left count size))

  pub by_quotient : set % size ≡ 0 → eqb (set / size) count ≡ eqb (count * size) set
  by_quotient h =
      same_test (eqb (set / size) count) (eqb (count * size) set)
      (λ t. eq-eqb (count * size) set (ap (λ (k : ℕ). k * size) (sym (eqb-true (set / size) count t)) ∙ whole-quotient))
      (λ t. eq-eqb (set / size) count (ap (λ (k : ℕ). k / size) (sym (eqb-true (count * size) set t)) ∙ mul-div_cancel count (omega arith)))
    where
      whole-quotient : set / size * size ≡ set
      whole-quotient = let q = div-add-mod' set size in omega arith

-- ---- a number that is tested for its sign; r is the test's answer

module _ (n : Number) (r : Bool) (so : r ≡ not (le_z (pos 0) (whole n))) where
  pub negative : r ≡ true → le_z (pos 0) (whole n) ≡ false
  negative h = not-true (le_z (pos 0) (whole n)) (sym so ∙ h)

  pub positive : r ≡ false → le_z (pos 0) (whole n) ≡ true
  positive h = not-false (le_z (pos 0) (whole n)) (sym so ∙ h)

-- neither negative nor zero
pub plus : (n : Number) → le_z (pos 0) (whole n) ≡ true → (n.magnitude ≡ 0 → ⊥) → n.minus ≡ false
plus n h f = not-true n.minus (rw (from_zero n, ne_eqb n.magnitude 0 f) at h)

pub both_pass : (t u : Bool) → (t && u) ≡ true → (t ≡ true) × (u ≡ true)
both_pass true u h = (refl, h)
both_pass false u h = let z : ◌≡◌ {A = ℕ} 0 1 = cc in absurd (omega arith)

equal_values : (m : Bool) (k c : ℕ) → eq_z (value m k) (pos c) ≡ ((eqb k 0 || not m) && eqb k c)
equal_values false k c = rw (or-true)
equal_values true zero c = refl
equal_values true (suc k) c = rw (ne_eqb (suc k) 0 (λ e. omega arith))

whole_equals : (n : Number) (c : ℕ) → eq_z (whole n) (pos c) ≡ ((eqb n.magnitude 0 || not n.minus) && eqb n.magnitude c)
unfolding whole
whole_equals n c = equal_values n.minus n.magnitude c

pub equals : (n : Number) (c : ℕ) → eq_z (whole n) (pos c) ≡ (le_z (pos 0) (whole n) && eqb n.magnitude c)
equals n c = whole_equals n c ∙ rw (from_zero n)
