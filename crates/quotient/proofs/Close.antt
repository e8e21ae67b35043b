-- A float in units of 2 ^ -t, as a whole number; and how close that is to v / den. Assumes nothing.
use Prim.Native.Nat.{ℕ, ◌*◌, ◌/◌, ◌%◌, ◌^◌, ◌≤◌}
use mathlib.Core.Bool.{cond}
use mathlib.Core.Path.{◌≡◌}
use lib.IntN.{ℤ, pos, neg_ℤ, nat_abs, ◌-ℤ◌, ◌*ℤ◌}
use lib.Ieee.{Float, nan, inf, fin, up, down}

-- x * 2 ^ t, cut to a whole number
abbrev pub scaled : ℕ → Float → ℤ
scaled t nan = pos 0
scaled t (inf s) = pos 0
scaled t (fin s m e) = cond s (neg_ℤ (pos (m * up e * 2 ^ t / down e))) (pos (m * up e * 2 ^ t / down e))

-- x is finite, and x * 2 ^ t is a whole number
abbrev pub Whole : ℕ → Float → Type 0
Whole t nan = ⊥
Whole t (inf s) = ⊥
Whole t (fin s m e) = m * up e * 2 ^ t % down e ≡ 0

-- with n = x * 2 ^ t, a whole number: |den * n - v * 2 ^ t| ≤ den * 2 ^ h
pub record Close (x : Float) (v : ℤ) (den t h : ℕ) : Type 0 where
  pub whole : Whole t x
  pub close : nat_abs (pos den *ℤ scaled t x -ℤ v *ℤ pos (2 ^ t)) ≤ den * 2 ^ h
