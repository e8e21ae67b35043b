-- Days counted over units, years or months, whatever their lengths.
-- Assumes nothing.
use Prim.Native.Nat.{ℕ, zero, suc, ◌+◌, ◌≤◌, ◌<◌}
use mathlib.Core.List.{List, [], ◌∷◌}
use mathlib.Core.Logic.{◌⊎◌, inl, inr}
use mathlib.Core.Path.{◌≡◌, refl}
use native.Mathlib.Omega.{arith}
use lib.ListN.{take, get_or}
use Rattle.layout.specs.Search.{sum}
use Rattle.layout.proofs.Laws.{lt-or-le}

-- one unit more
pub one_more : (l : List ℕ) (k : ℕ) → sum (take (suc k) l) ≡ sum (take k l) + get_or l k 0
unfolding sum
one_more [] zero = refl
one_more [] (suc k) = refl
one_more (x ∷ l) zero = omega arith
one_more (x ∷ l) (suc k) = rw (one_more l k) (omega arith)

-- a unit is over before a later one
pub over_before : (l : List ℕ) (i j : ℕ) → i < j → sum (take i l) + get_or l i 0 ≤ sum (take j l)
over_before l i zero h = absurd (omega arith)
over_before l i (suc j) h = go (lt-or-le i j) (over_before l i j)
  where
    go : (i < j) ⊎ (j ≤ i) → (i < j → sum (take i l) + get_or l i 0 ≤ sum (take j l)) → sum (take i l) + get_or l i 0 ≤ sum (take (suc j) l)
    go (inl k) earlier = omega (arith, earlier k, one_more l j)
    go (inr k) earlier = let e : i ≡ j = omega arith in rw e (omega (arith, one_more l j))
