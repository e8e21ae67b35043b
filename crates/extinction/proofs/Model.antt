-- How close a model is to the exact quotient, over whole numbers (document 02, order 1); and where it is exact. Assumes nothing.
use Prim.Native.Nat.{ℕ, ◌*◌, ◌^◌, ◌≤◌, ◌<◌}
use mathlib.Core.Logic.{◌⊎◌, inl, inr}
use mathlib.Core.Path.{◌≡◌, refl, sym, subst}
use native.Mathlib.Nat.{eq-or-lt_of_le, le_of_suc-le-suc}
use native.Mathlib.Omega.{arith}
use lib.Dec.{lit<, lit≤}
use lib.IntN.{pos, nat_abs, ◌-ℤ◌, ◌*ℤ◌}
use lib.Ieee.{Float, binary64, round, div, of_int}
use Rattle.layout.specs.Fields.{quotient}
use Rattle.quotient.proofs.Close.{Whole, scaled, Close}
use Rattle.quotient.proofs.Quotient.{quotient_close}
use Rattle.extinction.specs.Extinction.{model_of}

-- n is the result times 2^67, a whole number: |65535 n - c 2^68| ≤ 65535 x 2^14
pub record ModelClose (x : Float) (c : ℕ) : Type 0 where
  pub whole : Whole 67 x
  pub close : nat_abs (pos 65535 *ℤ scaled 67 x -ℤ pos (c * 2 ^ 68)) ≤ 65535 * 2 ^ 14

-- code 0 gives 0
pub model_0 : model_of 0 ≡ of_int binary64 (pos 0)
unfolding model_of quotient div of_int round
model_0 = refl

-- and 65535 gives 2
pub model_65535 : model_of 65535 ≡ of_int binary64 (pos 2)
unfolding model_of quotient div of_int round
model_65535 = refl

last_close : Close (model_of 65535) (pos 131070) 65535 67 14
unfolding model_of quotient div of_int round
last_close = record { whole = refl; close = lit≤ tt }

-- by the one rounding law, but for the last code, where the law's bound is met and not undercut
twice_close : (c : ℕ) → c < 65536 → Close (model_of c) (pos (2 * c)) 65535 67 14
unfolding model_of
twice_close c l = go (eq-or-lt_of_le (le_of_suc-le-suc l))
  where
    go : (c ≡ 65535) ⊎ (c < 65535) → Close (model_of c) (pos (2 * c)) 65535 67 14
    go (inl e) = subst (λ (k : ℕ). Close (model_of k) (pos (2 * k)) 65535 67 14) (sym e) last_close
    go (inr h) = quotient_close (pos (2 * c)) 65535 67 14 (omega arith) (lit< tt) (lit≤ tt) (lit≤ tt) (λ p. omega arith) (omega arith) (lit< tt)

pub model_close : (c : ℕ) → c < 65536 → ModelClose (model_of c) c
model_close c l =
    let r = twice_close c l in
    let e : 2 * c * 2 ^ 67 ≡ c * 2 ^ 68 = omega arith in
    record { whole = r.whole; close = subst (λ (k : ℕ). nat_abs (pos 65535 *ℤ scaled 67 (model_of c) -ℤ pos k) ≤ 65535 * 2 ^ 14) e r.close }
