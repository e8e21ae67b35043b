-- How close degrees and metres are to the exact quotients, over whole numbers (document 01, "Fields and points"); and 90 degrees, which are exact.
-- Assumes nothing.
use mathlib.Core.Path.{◌≡◌, refl}
use Prim.Native.Nat.{ℕ, ◌^◌, ◌≤◌, ◌<◌}
use native.Mathlib.Omega.{arith}
use lib.Dec.{lit<, lit≤}
use lib.IntN.{ℤ, pos, nat_abs}
use lib.Ieee.{binary64, round, div, of_int}
use Rattle.layout.specs.Fields.{quotient, degrees, metres}
use Rattle.quotient.proofs.Close.{Close}
use Rattle.quotient.proofs.Quotient.{quotient_close}

-- with n = degrees v * 2 ^ 72, a whole number: |1,000,000 n - v 2 ^ 72| ≤ 1,000,000 * 2 ^ 26
pub degrees_close : (v : ℤ) → nat_abs v ≤ 180000000 → Close (degrees v) v 1000000 72 26
unfolding degrees
degrees_close v l = quotient_close v 1000000 72 26 (omega arith) (lit< tt) (lit≤ tt) (lit≤ tt) (λ p. omega arith) (omega arith) (lit< tt)

-- with n = metres v * 2 ^ 59, a whole number: |100 n - v 2 ^ 59| ≤ 100 * 2 ^ 31
pub metres_close : (v : ℕ) → v < 2 ^ 32 → Close (metres v) (pos v) 100 59 31
unfolding metres
metres_close v l = quotient_close (pos v) 100 59 31 (omega arith) (lit< tt) (lit≤ tt) (lit≤ tt) (λ p. omega arith) (omega arith) (lit< tt)

pub degrees_90 : degrees (pos 90000000) ≡ of_int binary64 (pos 90)
unfolding degrees quotient div of_int round
degrees_90 = refl
