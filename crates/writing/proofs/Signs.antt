-- What the writer of a signed number puts.
-- Assumes nothing.
use Prim.Native.Nat.{ℕ}
use mathlib.Core.Bool.{true, false}
use mathlib.Core.Path.{◌≡◌}
use mathlib.Core.List.{[], ◌∷◌, ◌++◌}
use native.Mathlib.Omega.{arith}
use lib.IntN.{ℤ, pos, negsuc, nat_abs}
use lib.Signed.{lt_z}
use borrow.Author.Tests.{ltb-true}
use Rattle.layout.specs.Listing.{decimal, signed_decimal}

pub minus : (z : ℤ) (m e : ℕ) → m ≡ nat_abs z → lt_z z (pos 0) ≡ true → (45 ∷ []) ++ (decimal m ++ e ∷ []) ≡ signed_decimal z ++ e ∷ []
unfolding signed_decimal
minus (pos n) m e is h = absurd (omega (arith, ltb-true n 0 h))
minus (negsuc n) m e is h = rw is

pub no_minus : (z : ℤ) (m e : ℕ) → m ≡ nat_abs z → lt_z z (pos 0) ≡ false → decimal m ++ e ∷ [] ≡ signed_decimal z ++ e ∷ []
unfolding signed_decimal
no_minus (pos n) m e is h = rw is
no_minus (negsuc n) m e is h = cc
