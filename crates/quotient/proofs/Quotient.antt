-- The quotient of two whole numbers that a format holds, as a float, is close to the quotient. For either format. Assumes nothing.
use mathlib.Core.Path.{◌≡◌, refl, sym, ap, ap₂, ◌∙◌}
use mathlib.Core.Logic.{◌⊎◌, inl, inr}
use mathlib.Core.Bool.{Bool, true, false, not, cond}
use Prim.Native.Nat.{ℕ, zero, suc, ◌+◌, ◌-◌, ◌*◌, ◌/◌, ◌%◌, ◌^◌, ◌≤◌, ◌<◌, zero-le}
use native.Mathlib.Nat.{mul-one, mul-zero, zero-mul, mul_comm, mul_assoc, mul_left_comm, mul-pos, mul-div_cancel, mul-mod_left, eq_of_mul-eq-mul_right, eq-zero-or-pos}
use native.Mathlib.Omega.{arith}
use borrow.Author.Tests.{ne_eqb}
use lib.Dec.{T, ltb, ltb→lt, nltb→le}
use lib.Pow.{pow_pos}
use lib.IntN.{ℤ, pos, negsuc, neg_ℤ, nat_abs, sub_ℕ, ◌-ℤ◌, ◌*ℤ◌}
use lib.Ieee.{Float, nan, inf, fin, Format, binary64, prec, emax, low, up, down, round, div, of_int, unlike}
use lib.Ieee.Fits.{down_pos, up_pos}
use lib.Ieee.Exact.{HasValue, round_exact}
use lib.Ieee.Scale.{round_same}
use lib.Ieee.Back.{round_whole}
use Rattle.layout.specs.Fields.{quotient}
use Rattle.quotient.proofs.Close.{scaled, Whole, Close}
use Rattle.quotient.proofs.Near.{Near, near}

-- ---- a quotient of whole numbers is rounded once

nonzero : (n u d k : ℕ) → n * u * 1 ≡ d * k → 0 < d → 0 < k → n ≡ 0 → ⊥
nonzero n u d k e D K z =
    let p : 0 < d * k = mul-pos D K in
    let q : n * u * 1 ≡ 0 = ap (λ (x : ℕ). x * u * 1) z ∙ ap (λ (x : ℕ). x * 1) (zero-mul u) in
    omega arith

pos_of : (n : ℕ) → (n ≡ 0 → ⊥) → 0 < n
pos_of zero h = absurd (h refl)
pos_of (suc n) h = omega arith

unlike_false : (s : Bool) → unlike s false ≡ s
unlike_false true = refl
unlike_false false = refl

div_is : (f : Format) (x y : Float) (s : Bool) (v den : ℕ) → 0 < den → HasValue x s v 1 → HasValue y false den 1 → div f x y ≡ round f s v den
unfolding div
div_is f nan y s v den D h k = absurd h
div_is f (inf t) y s v den D h k = absurd h
div_is f (fin t m e) nan s v den D h k = absurd k
div_is f (fin t m e) (inf w) s v den D h k = absurd k
div_is f (fin t m e) (fin w n d) s v den D h k =
    let z = nonzero n (up d) den (down d) k.1 D (down_pos d) in
    let x : m * up e ≡ v * down e = sym (mul-one (m * up e)) ∙ h.1 in
    let y : n * up d ≡ den * down d = sym (mul-one (n * up d)) ∙ k.1 in
    rw (ne_eqb n 0 z)
    (ap (λ (g : Bool). round f g (m * up e * down d) (n * up d * down e)) (ap₂ unlike h.0 k.0 ∙ unlike_false s)
    ∙ round_same f s (m * up e * down d) (n * up d * down e) v den (mul-pos (mul-pos (pos_of n z) (up_pos d)) (down_pos e)) D (rw (x, y) (simp (mul_assoc, mul_comm, mul_left_comm))))

-- ---- zero
zero_over : (x : Float) (s : Bool) (a b : ℕ) → 0 < a → HasValue x s 0 a → HasValue x s 0 b
zero_over nan s a b A v = v
zero_over (inf w) s a b A v = v
zero_over (fin w m e) s a b A v =
    let z : m * up e ≡ 0 = eq_of_mul-eq-mul_right a A (m * up e) 0 (v.1 ∙ zero-mul (down e) ∙ sym (zero-mul a)) in
    (v.0, ap (λ (x : ℕ). x * b) z ∙ zero-mul b ∙ sym (zero-mul (down e)))

zero_near : (f : Format) (s : Bool) (den t h : ℕ) → 0 < den → Near (round f s 0 den) s 0 den t h
zero_near f s den t h D =
    record {
      n = 0;
      value =
          zero_over (round f s 0 den) s den (2 ^ t) D
          (round_exact f s 0 den 0 0 D (pow_pos (prec f)) (pow_pos (low f + suc (emax f))) (zero-mul (2 ^ low f) ∙ sym (zero-mul den)));
      over = rw (mul-zero den) zero-le;
      under = rw (zero-mul (2 ^ t)) zero-le;
    }

-- ---- as integers
sub_abs : (a b E : ℕ) → a ≤ b + E → b ≤ a + E → nat_abs (sub_ℕ a b) ≤ E
sub_abs a b E h k = go (ltb a b) (ltb→lt a b) (nltb→le a b)
  where
    go : (t : Bool) → (T t → a < b) → (T (not t) → b ≤ a) → nat_abs (cond t (negsuc (b - suc a)) (pos (a - b))) ≤ E
    go true l g = let x = l tt in omega arith
    go false l g = let x = g tt in omega arith

-- a with the sign s
abbrev pub signed : Bool → ℕ → ℤ
signed s a = cond s (neg_ℤ (pos a)) (pos a)

diff : (s : Bool) (a b E : ℕ) → a ≤ b + E → b ≤ a + E → nat_abs (signed s a -ℤ signed s b) ≤ E
diff false a zero E h k = omega arith
diff false a (suc b) E h k = sub_abs a (suc b) E h k
diff true zero zero E h k = omega arith
diff true zero (suc b) E h k = omega arith
diff true (suc a) zero E h k = sub_abs zero (suc a) E k h
diff true (suc a) (suc b) E h k = sub_abs (suc b) (suc a) E k h

times_left : (s : Bool) (a b : ℕ) → pos a *ℤ signed s b ≡ signed s (a * b)
times_left false a b = refl
times_left true a zero = rw mul-zero
times_left true a (suc b) = refl

times_right : (s : Bool) (a b : ℕ) → signed s a *ℤ pos b ≡ signed s (a * b)
times_right false a b = refl
times_right true zero b = rw zero-mul
times_right true (suc a) b = refl

-- ---- what `Near` says, of the number itself
cut : (x : Float) (s : Bool) (n t : ℕ) → HasValue x s n (2 ^ t) → Whole t x × (scaled t x ≡ signed s n)
cut nan s n t v = absurd v
cut (inf w) s n t v = absurd v
cut (fin w m e) s n t v = (
  ap (λ (x : ℕ). x % down e) v.1 ∙ mul-mod_left n (down e),
  ap₂ signed v.0 (ap (λ (x : ℕ). x / down e) v.1 ∙ mul-div_cancel n (down_pos e)),
)

close_of_near : (x : Float) (s : Bool) (v den t h : ℕ) → Near x s v den t h → Close x (signed s v) den t h
close_of_near x s v den t h r =
    let c = cut x s r.n t r.value in
    record {
      whole = c.0;
      close = rw (c.1, times_left s den r.n, times_right s v (2 ^ t)) (diff s (den * r.n) (v * 2 ^ t) (den * 2 ^ h) r.over r.under);
    }

-- ---- the law: v / den rounded once, for a v of the sign s
div_close : (f : Format) (x y : Float) (s : Bool) (v den t d h : ℕ) → HasValue x s v 1 → HasValue y false den 1 → low f ≡ t + d → 0 < den
    → (0 < v → den * 2 ^ (prec f - 1) ≤ v * 2 ^ t) → v * 2 ^ t < den * 2 ^ (prec f + suc h) → prec f + h < t + emax f → Close (div f x y) (signed s v) den t h
div_close f x y s v den t d h a b split D normal small fine =
    rw (div_is f x y s v den D a b) (close_of_near (round f s v den) s v den t h (go (eq-zero-or-pos v)))
  where
    go : (v ≡ 0) ⊎ (0 < v) → Near (round f s v den) s v den t h
    go (inl e) = rw e (zero_near f s den t h D)
    go (inr p) = near f s v den t d h split D (normal p) small fine

-- the same of a whole number and a divisor that f64 holds
signed_close : (s : Bool) (a den t h : ℕ) → a ≤ 2 ^ 53 → 0 < den → den ≤ 2 ^ 53 → t ≤ 1074 → (0 < a → den * 2 ^ 52 ≤ a * 2 ^ t) → a * 2 ^ t < den * 2 ^ (53 + suc h) → 53 + h < t + 1023
    → Close (div binary64 (round binary64 s a 1) (round binary64 false den 1)) (signed s a) den t h
signed_close s a den t h A D E l normal small fine =
    let split : 1074 ≡ t + (1074 - t) = omega arith in
    div_close binary64 (round binary64 s a 1) (round binary64 false den 1) s a den t (1074 - t) h (round_whole binary64 s a A) (round_whole binary64 false den E) split D normal small fine

-- and so of document 01's quotient
pub quotient_close : (v : ℤ) (den t h : ℕ) → nat_abs v ≤ 2 ^ 53 → 0 < den → den ≤ 2 ^ 53 → t ≤ 1074 → (0 < nat_abs v → den * 2 ^ 52 ≤ nat_abs v * 2 ^ t)
    → nat_abs v * 2 ^ t < den * 2 ^ (53 + suc h) → 53 + h < t + 1023 → Close (quotient v den) v den t h
unfolding quotient of_int
quotient_close (pos a) den t h = signed_close false a den t h
quotient_close (negsuc a) den t h = signed_close true (suc a) den t h
