-- A name as it is lent and put: without its trailing blanks, and a blank behind it.
-- Assumes nothing.
use Prim.Native.Nat.{ℕ, ◌+◌, ◌*◌, ◌-◌, ◌≤◌}
use mathlib.Core.Path.{◌≡◌}
use mathlib.Core.List.{List, [], ◌∷◌, ◌++◌}
use native.Mathlib.Omega.{arith}
use lib.ListN.{length, take, drop, length-take, length-append}
use Rattle.layout.specs.Bytes.{part}
use Rattle.layout.specs.Listing.{trimmed}
use Rattle.layout.specs.Answers.{name_at}
use Rattle.writing.proofs.Puts.{lent_part}

module _ (names : List ℕ) (entry kept : ℕ) (few : kept ≤ 28) (is : trimmed (part names (28 * entry) 28) ≡ part names (28 * entry) kept) where
  pub name_lent : take (28 * entry + kept - 28 * entry) (drop (28 * entry) names) ++ 32 ∷ [] ≡ trimmed (name_at names entry) ++ 32 ∷ []
  unfolding name_at
  name_lent = rw (lent_part names (28 * entry) kept, is)

  pub name_short : length (trimmed (name_at names entry) ++ 32 ∷ []) ≤ 29
  unfolding name_at part
  name_short = rw (is, length-append (take kept (drop (28 * entry) names)) (32 ∷ []), length-take kept (drop (28 * entry) names)) (omega arith)
