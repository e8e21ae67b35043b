-- Numbers to the base 256 over the count of digits, and the half at which their sign turns.
-- Assumes nothing.
use mathlib.Core.Path.{◌≡◌, refl, sym, ap, ◌∙◌}
use mathlib.Core.List.{List}
use Prim.Native.Nat.{ℕ, zero, suc, ◌+◌, ◌-◌, ◌*◌, ◌%◌, ◌^◌, ◌≤◌, ◌<◌}
use native.Mathlib.Nat.{lt_of_lt_of_le, le_of_suc-le-suc, pow-le-pow_right, pow-suc, pow-succ', one-mul}
use native.Mathlib.Numerals.{add-one}
use native.Mathlib.Omega.{arith}
use lib.Dec.{lit<, lit≤}
use lib.Arith.{digits_lt}
use lib.Pow.{pow-add, pow_mono, shl_exact}
use lib.ListN.{get_or, take, drop}
use lib.Seq.{get_or-take, get_or-drop}
use Rattle.layout.specs.Bytes.{byte_at, unsigned_at}

-- one more digit
pub next-lt : (v b i : ℕ) → v < 256 ^ i → b < 256 → v * 256 + b < 256 ^ (i + 1)
next-lt v b i h k = rw (add-one, pow-suc) (digits_lt h k)

pub next-is : (p : List ℕ) (at i v : ℕ) → v ≡ unsigned_at p at i → v * 256 + byte_at p (at + i) ≡ unsigned_at p at (i + 1)
unfolding unsigned_at
next-is p at i v h = rw (add-one i, h)

-- a byte of the bytes lent from a place on
pub lent_byte : (p : List ℕ) (at width i : ℕ) → i < width → get_or (take (at + width - at) (drop at p)) i 0 ≡ byte_at p (at + i)
unfolding byte_at
lent_byte p at width i h =
    let e : at + width - at ≡ width = omega arith in
    rw e (get_or-take width (drop at p) i 0 h ∙ get_or-drop at p i 0)

-- fewer than 8 digits leave room for one more in 64 bits
pub room : (v i : ℕ) → v < 256 ^ i → i < 8 → v < 2 ^ 56
room v i h l = lt_of_lt_of_le h (pow-le-pow_right (lit≤ tt) (le_of_suc-le-suc l))

-- ---- the half of w digits

bits_of : (w : ℕ) → 256 ^ w ≡ 2 ^ (8 * w)
bits_of zero = refl
bits_of (suc w) =
    let e : 8 * suc w ≡ 8 * w + 8 = omega arith in
    pow-suc 256 w ∙ ap (λ (x : ℕ). x * 256) (bits_of w) ∙ sym (pow-add 2 (8 * w) 8) ∙ ap (λ (x : ℕ). 2 ^ x) (sym e)

pub twice_half : (w : ℕ) → 1 ≤ w → 256 ^ w ≡ 2 * 2 ^ (8 * w - 1)
twice_half w h =
    let e : 8 * w ≡ suc (8 * w - 1) = omega arith in
    bits_of w ∙ ap (λ (x : ℕ). 2 ^ x) e ∙ pow-succ' 2 (8 * w - 1)

pub half_le : (w : ℕ) → w ≤ 4 → 2 ^ (8 * w - 1) ≤ 2 ^ 31
half_le w h = let l : 8 * w - 1 ≤ 31 = omega arith in pow_mono l

-- the machine's `1 << (8 * w - 1)`
pub half_is : (w : ℕ) → w ≤ 4 → (1 * 2 ^ (8 * w - 1)) % 2 ^ 64 ≡ 2 ^ (8 * w - 1)
half_is w h = shl_exact {a = 1} 1 (8 * w - 1) 64 (lit< tt) (omega arith) ∙ one-mul (2 ^ (8 * w - 1))
