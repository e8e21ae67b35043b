-- What a caller needs of a number whose magnitude is held at 2^63.
-- Assumes nothing.
use Prim.Native.Nat.{ℕ, ◌≤◌}
use mathlib.Core.List.{List}
use mathlib.Core.Logic.{◌↔◌, ⊎_elim}
use mathlib.Core.Path.{◌≡◌, refl}
use native.Mathlib.Omega.{arith}
use lib.Dec.{leb}
use borrow.Author.Tests.{le-leb, lt-leb}
use Rattle.layout.specs.Bytes.{part}
use Rattle.layout.specs.Text.{number_of, whole}
use Rattle.layout.proofs.Laws.{lt-or-le}
use Rattle.text.specs.Numbers.{capped, number_in, whole_in}

module _ (b : List ℕ) (at width : ℕ) where
  -- the sign is the true one
  minus_true : (number_in b at width).minus ≡ (number_of (part b at width)).minus
  unfolding number_in
  minus_true = refl

  -- 2^63 - 1 parts the magnitude held as it parts the true one
  pub magnitude-fits : ((number_in b at width).magnitude ≤ 9223372036854775807) ↔ ((number_of (part b at width)).magnitude ≤ 9223372036854775807)
  unfolding number_in capped
  magnitude-fits = (λ h. omega arith, λ h. omega arith)

  -- the same of the tests, as rules 4 and 9 have them
  pub magnitude_test : leb (number_in b at width).magnitude 9223372036854775807 ≡ leb (number_of (part b at width)).magnitude 9223372036854775807
  unfolding number_in capped
  magnitude_test = ⊎_elim
      (λ h. rw (lt-leb (number_of (part b at width)).magnitude 9223372036854775807 h) (lt-leb (number_in b at width).magnitude 9223372036854775807 (omega arith)))
      (λ h. rw (le-leb (number_of (part b at width)).magnitude 9223372036854775807 h) (le-leb (number_in b at width).magnitude 9223372036854775807 (omega arith)))
      (lt-or-le 9223372036854775807 (number_of (part b at width)).magnitude)

  -- where it fits it is the true one
  pub magnitude_true : (number_in b at width).magnitude ≤ 9223372036854775807 → (number_in b at width).magnitude ≡ (number_of (part b at width)).magnitude
  unfolding number_in capped
  magnitude_true h = omega arith

  -- and so is the value
  pub whole_true : (number_in b at width).magnitude ≤ 9223372036854775807 → whole_in (number_in b at width) ≡ whole (number_of (part b at width))
  unfolding whole_in whole
  whole_true h = rw (magnitude_true h, minus_true)
