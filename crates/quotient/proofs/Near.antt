-- How far `round` is from its fraction, over whole numbers: at most half of a unit in the last place. For either format. Assumes nothing.
use mathlib.Core.Path.{◌≡◌, refl, sym, ap, ◌∙◌, subst}
use mathlib.Core.Logic.{◌⊎◌, inl, inr}
use mathlib.Core.Bool.{Bool, not}
use Prim.Native.Nat.{ℕ, zero, suc, ◌+◌, ◌-◌, ◌*◌, ◌/◌, ◌%◌, ◌^◌, ◌≤◌, ◌<◌, compare, Ordering}
use native.Mathlib.Nat.{le_trans, le_of_eq, lt_of_lt_of_le, lt_of_le_of_lt, suc-mul, add-mul, mul_comm, mul_assoc, mul_left_comm, mul_right_comm, mul-pos, mul-le-mul_left, mul-le-mul_right, mul-lt-mul_of_pos_right, le_of_mul-le-mul_right, eq_of_mul-eq-mul_right, div-add-mod', div-lt_iff_lt-mul, le-div_iff_mul-le, mod-lt, sub-add_cancel, div-div-eq-div-mul, zero-mul, one-mul, pow-succ', lt_of_not-le, not-le_of_lt}
use native.Mathlib.Omega.{arith}
use lib.Dec.{T, is_le, compare_is_eq, eqb, leb→le, nleb→lt, eqb→eq, eqb_refl}
use lib.Arith.{lt_of_le-ne}
use lib.Pow.{pow-add, pow_pos, pow_mono, pow-lt}
use lib.Ieee.{Float, nan, inf, fin, Format, prec, emax, low, up, down, size, nearest, round}
use lib.Ieee.Digits.{size-lt, size-le}
use lib.Ieee.Fits.{round_is, nearest-le, kept-lt, two, two-le_pos}
use lib.Ieee.Exact.{HasValue, units_val}
use lib.Ieee.Nearest.{closest}

-- ---- a / b to the nearest whole number is within a half of it
abbrev Cmp : Ordering → ℕ → ℕ → Type 0
Cmp Ordering.lt a b = a < b
Cmp Ordering.eq a b = a ≡ b
Cmp Ordering.gt a b = b < a

cmp : (a b : ℕ) → Cmp (compare a b) a b
cmp a b = go (compare a b) (leb→le a b) (nleb→lt a b) (eqb→eq a b) (λ (e : a ≡ b). subst (λ (x : ℕ). T (eqb a x)) e (eqb_refl a))
  where
    go : (o : Ordering) → (T (is_le o) → a ≤ b) → (T (not (is_le o)) → b < a) → (T (compare_is_eq o) → a ≡ b) → (a ≡ b → T (compare_is_eq o)) → Cmp o a b
    go Ordering.lt h k e n = lt_of_le-ne (h tt) n
    go Ordering.eq h k e n = e tt
    go Ordering.gt h k e n = k tt

-- 2x and 2y are e apart at most
abbrev pub Within : ℕ → ℕ → ℕ → Type 0
Within x y e = (2 * x ≤ 2 * y + e) × (2 * y ≤ 2 * x + e)

-- q * b + r rounded to q or to q + 1 times b
down_near : (Q r b : ℕ) → r * 2 ≤ b → Within Q (Q + r) b
down_near Q r b h = (omega arith, omega arith)

up_near : (Q r b : ℕ) → b ≤ r * 2 → r < b → Within (Q + b) (Q + r) b
up_near Q r b h l = (omega arith, omega arith)

even_or_odd : (q : ℕ) → (q % 2 ≡ 0) ⊎ (q % 2 ≡ 1)
even_or_odd q = go (q % 2) (mod-lt q (pow_pos 1))
  where
    go : (m : ℕ) → m < 2 → (m ≡ 0) ⊎ (m ≡ 1)
    go zero h = inl refl
    go (suc zero) h = inr refl
    go (suc (suc m)) h = absurd (omega arith)

nearest_near : (q r b : ℕ) (o : Ordering) → Cmp o (r * 2) b → r < b → Within (nearest q o * b) (q * b + r) b
nearest_near q r b Ordering.lt c l = down_near (q * b) r b (omega arith)
nearest_near q r b Ordering.eq c l = elim (even_or_odd q) [
  | inl e ↦ rw (e, add-mul, zero-mul) (omega arith, omega arith)
  | inr e ↦ rw (e, add-mul q 1 b, one-mul b) (up_near (q * b) r b (omega arith) l)
]
nearest_near q r b Ordering.gt c l = rw (suc-mul q b) (up_near (q * b) r b (omega arith) l)

closest_near : (a b : ℕ) → 0 < b → Within (closest a b * b) a b
closest_near a b B = subst (λ (x : ℕ). Within (closest a b * b) x b) (div-add-mod' a b) (nearest_near (a / b) (a % b) b (compare (a % b * 2) b) (cmp (a % b * 2) b) (mod-lt a B))

-- ---- x is ±n / 2 ^ t exactly, and n / 2 ^ t is num / den with an error of 2 ^ h / 2 ^ t at most
pub record Near (x : Float) (s : Bool) (num den t h : ℕ) : Type 0 where
  pub n : ℕ
  pub value : HasValue x s n (2 ^ t)
  pub over : den * n ≤ num * 2 ^ t + den * 2 ^ h
  pub under : num * 2 ^ t ≤ den * n + den * 2 ^ h

-- a common factor is taken out of a value's fraction
reduce : (x : Float) (s : Bool) (a b c : ℕ) → 0 < c → HasValue x s (a * c) (b * c) → HasValue x s a b
reduce nan s a b c C v = v
reduce (inf t) s a b c C v = v
reduce (fin t m e) s a b c C v =
    (v.0, eq_of_mul-eq-mul_right c C (m * up e * b) (a * down e) (mul_assoc (m * up e) b c ∙ v.1 ∙ mul_right_comm a c (down e)))

size_gt : (n j : ℕ) → 2 ^ j ≤ n → j < size n
size_gt n j h = lt_of_not-le (λ (g : size n ≤ j). not-le_of_lt (lt_of_lt_of_le (size-lt n) (pow_mono g)) h)

-- with the power of two of the smallest unit as d and t, where a unit is below 2 ^ t, d below the kept digits
drop_ge : (p z d : ℕ) → 0 < p → p - 1 + d < z → d ≤ z - p
drop_ge p z d P l = omega arith

drop_le : (p z d h : ℕ) → z ≤ p + suc h + d → z - p ≤ suc h + d
drop_le p z d h l = omega arith

halves : (X Y E u : ℕ) → u ≤ 2 * E → Within X Y u → (X ≤ Y + E) × (Y ≤ X + E)
halves X Y E u l w = (omega arith, omega arith)

exponents : (p k L t d h e : ℕ) → L ≡ t + d → k ≤ suc h + d → p + h < t + e → p + k < L + suc e
exponents p k L t d h e q l r = omega arith

prec_pos : (f : Format) → 0 < prec f
prec_pos f = two-le_pos (prec f) (two f)

-- q * 2 ^ k, with d of the k taken out
shift_out : (q k d : ℕ) → d ≤ k → q * 2 ^ (k - d) * 2 ^ d ≡ q * 2 ^ k
shift_out q k d l = mul_assoc q (2 ^ (k - d)) (2 ^ d) ∙ ap (λ (x : ℕ). q * x) (sym (pow-add 2 (k - d) d) ∙ ap (λ (x : ℕ). 2 ^ x) (sub-add_cancel l))

-- The one law. t and d split the exponent of the format's smallest value: the result is counted in units of 2 ^ -t, which `normal` says is fine enough, and is
-- within 2 ^ h of these units, which `small` allows.
pub near : (f : Format) (s : Bool) (num den t d h : ℕ) → low f ≡ t + d → 0 < den → den * 2 ^ (prec f - 1) ≤ num * 2 ^ t → num * 2 ^ t < den * 2 ^ (prec f + suc h)
    → prec f + h < t + emax f → Near (round f s num den) s num den t h
near f s num den t d h split D normal small fine =
    let p = prec f in
    let n = num * 2 ^ low f in
    let w = n / den in
    let k = size w - p in
    let u = den * 2 ^ k in
    let q = closest n u in
    let c = 2 ^ d in
    let C : 0 < c = pow_pos d in
    let n-is : n ≡ num * 2 ^ t * c = ap (λ (x : ℕ). num * 2 ^ x) split ∙ ap (λ (x : ℕ). num * x) (pow-add 2 t d) ∙ sym (mul_assoc num (2 ^ t) c) in
    let lo : d ≤ k =
    drop_ge p (size w) d (prec_pos f)
    (size_gt w (p - 1 + d)
    ((le-div_iff_mul-le D).1
    (le_trans (le_of_eq (ap (λ (x : ℕ). x * den) (pow-add 2 (p - 1) d) ∙ mul_comm (2 ^ (p - 1) * c) den ∙ sym (mul_assoc den (2 ^ (p - 1)) c)))
    (le_trans (mul-le-mul_right c normal) (le_of_eq (sym n-is)))))) in
    let hi : k ≤ suc h + d =
    drop_le p (size w) d h
    (size-le w (p + suc h + d)
    ((div-lt_iff_lt-mul D).1
    (lt_of_le_of_lt (le_of_eq n-is)
    (lt_of_lt_of_le (mul-lt-mul_of_pos_right small C)
    (le_of_eq (mul_assoc den (2 ^ (p + suc h)) c ∙ mul_comm den (2 ^ (p + suc h) * c) ∙ ap (λ (x : ℕ). x * den) (sym (pow-add 2 (p + suc h) d)))))))) in
    let N = q * 2 ^ (k - d) in
    let N-is : N * c ≡ q * 2 ^ k = shift_out q k d lo in
    let qu-is : q * u ≡ den * N * c = mul_left_comm q den (2 ^ k) ∙ ap (λ (x : ℕ). den * x) (sym N-is) ∙ sym (mul_assoc den N c) in
    let u-le : u ≤ 2 * (den * 2 ^ h * c) =
    le_trans (mul-le-mul_left den (pow_mono hi))
    (le_of_eq (ap (λ (x : ℕ). den * x) (pow-add 2 (suc h) d ∙ ap (λ (x : ℕ). x * c) (pow-succ' 2 h)) ∙ simp (mul_assoc, mul_comm, mul_left_comm))) in
    let W : Within (den * N * c) (num * 2 ^ t * c) u = rw (← qu-is, ← n-is) (closest_near n u (mul-pos D (pow_pos k))) in
    let b = halves (den * N * c) (num * 2 ^ t * c) (den * 2 ^ h * c) u u-le W in
    let q-le : q ≤ 2 ^ p = le_trans (nearest-le (n / u) (compare (n % u * 2) u)) (subst (λ (x : ℕ). x < 2 ^ p) (div-div-eq-div-mul n den (2 ^ k)) (kept-lt p w)) in
    let under : q * 2 ^ k < 2 ^ (low f + suc (emax f)) =
    lt_of_le_of_lt (le_trans (mul-le-mul_right (2 ^ k) q-le) (le_of_eq (sym (pow-add 2 p k)))) (pow-lt (exponents p k (low f) t d h (emax f) split hi fine)) in
    let v : HasValue (round f s num den) s (q * 2 ^ k) (2 ^ low f) = subst (λ (x : Float). HasValue x s (q * 2 ^ k) (2 ^ low f)) (sym (round_is f s num den)) (units_val f s q k under) in
    record {
      n = N;
      value =
          reduce (round f s num den) s N (2 ^ t) c C
          (subst (λ (x : ℕ). HasValue (round f s num den) s x (2 ^ t * c)) (sym N-is)
          (subst (λ (x : ℕ). HasValue (round f s num den) s (q * 2 ^ k) x) (ap (λ (x : ℕ). 2 ^ x) split ∙ pow-add 2 t d) v));
      over = le_of_mul-le-mul_right (le_trans b.0 (le_of_eq (sym (add-mul (num * 2 ^ t) (den * 2 ^ h) c)))) C;
      under = le_of_mul-le-mul_right (le_trans b.1 (le_of_eq (sym (add-mul (den * N) (den * 2 ^ h) c)))) C;
    }
