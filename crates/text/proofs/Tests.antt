-- The tests of single bytes, and two tests at once.
-- Assumes nothing.
use Prim.Native.Nat.{ℕ, ◌≤◌}
use mathlib.Core.Bool.{Bool, true, false, ◌&&◌, not}
use mathlib.Core.List.{List}
use mathlib.Core.Path.{◌≡◌, subst}
use lib.Dec.{T, leb, leb→le}
use Rattle.layout.specs.Bytes.{byte_at}
use Rattle.layout.specs.Text.{digit, fits}
use Rattle.layout.proofs.Laws.{and_T}
use Rattle.layout.proofs.Tests.{is_true}
use Rattle.text.specs.Runs.{fails}

-- a digit is 48 to 57
pub digit_bounds : (x : ℕ) → T (fits digit x) → (48 ≤ x) × (x ≤ 57)
unfolding fits
digit_bounds x h = let k = (and_T (leb 48 x) (leb x 57)).0 h in (leb→le 48 x k.0, leb→le x 57 k.1)

pub not_failing : (t : ℕ → Bool) (b : List ℕ) (i : ℕ) → fails t b i ≡ false → T (t (byte_at b i))
unfolding fails
not_failing t b i e = go (t (byte_at b i)) e
  where
    go : (u : Bool) → not u ≡ false → T u
    go true q = tt
    go false q = subst (λ (v : Bool). T v) q tt

-- two tests as one
pub both_true : (a b : Bool) → (a && b) ≡ true → (a ≡ true) × (b ≡ true)
both_true a b e = let g = (and_T a b).0 (rw e tt) in (is_true a g.0, is_true b g.1)
