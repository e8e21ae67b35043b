-- What is found below a number, as an `Option`: the first that passes, by what a search of std says of it, and the only one.
-- Assumes nothing.
use Prim.Native.Nat.{ℕ, ◌+◌, ◌-◌, ◌≤◌, ◌<◌}
use mathlib.Core.Bool.{Bool, true, false}
use mathlib.Core.Logic.{◌⊎◌, inl, inr}
use mathlib.Core.Path.{◌≡◌, sym, ◌∙◌}
use native.Mathlib.Nat.{sub-zero}
use native.Mathlib.Omega.{arith}
use lib.Dec.{T}
use Rattle.std.specs.Prelude.{Option, Some, None, MatchOption, is_some}
use Rattle.layout.specs.Search.{find, only, Below}
use Rattle.layout.proofs.Laws.{find_bounds, find-before, find_at, lt-or-le}
use Rattle.layout.proofs.Only.{only-missing, only_one, only_doubled}

module _ (t : ℕ → Bool) where
  fails : (k : ℕ) → t k ≡ false → T (t k) → ⊥
  fails k e h = rw e at h

  module _ (from n : ℕ) (up : from ≤ n) where
    abbrev found : ℕ
    found = find t from (n - from)

    to : found ≤ n
    to = omega (arith, up, (find_bounds t from (n - from)).1)

    passes : found < n → T (t found)
    passes h = find_at t from (n - from) (omega arith)

    -- what std says of a search, and so it is the layout's
    pub first_below : (r : Option ℕ) → MatchOption r ((k : ℕ) → from ≤ k → k < n → t k ≡ false) (λ i. (from ≤ i) × (i < n) × (t i ≡ true) × ((k : ℕ) → from ≤ k → k < i → t k ≡ false)) → Below n r found
    first_below None h = go (lt-or-le found n)
      where
        go : (found < n) ⊎ (n ≤ found) → found ≡ n
        go (inl l) = absurd (fails found (h found (find_bounds t from (n - from)).0 l) (passes l))
        go (inr l) = omega (arith, l, to)
    first_below (Some i) h = (go (lt-or-le i found) (lt-or-le found i), h.1)
      where
        go : (i < found) ⊎ (found ≤ i) → (found < i) ⊎ (i ≤ found) → i ≡ found
        go (inl l) w = absurd (let p : true ≡ false = sym h.2 ∙ find-before t from (n - from) i h.0 l in cc)
        go (inr l) (inl m) = absurd (fails found (h.3 found (find_bounds t from (n - from)).0 m) (passes (omega (arith, m, h.1))))
        go (inr l) (inr m) = omega arith

missed : (n k : ℕ) (r : Option ℕ) → Below n r k → is_some r ≡ false → k ≡ n
missed n k None b e = b
missed n k (Some i) b e = cc

hit : (n k : ℕ) (r : Option ℕ) → Below n r k → is_some r ≡ true → k ≡ n → ⊥
hit n k None b e h = cc
hit n k (Some i) b e h = omega (arith, b, h)

module _ (t : ℕ → Bool) (n : ℕ) where
  -- there is none
  pub none_passes : find t 0 (n - 0) ≡ n → only t n ≡ n
  none_passes h = sym (only-missing t n (rw sub-zero at h))

  -- the first is i: the only one, where none is found behind it
  module _ (i : ℕ) (first : (i ≡ find t 0 (n - 0)) × (i < n)) (second : Option ℕ) (behind : Below n second (find t (i + 1) (n - (i + 1)))) where
    here : i ≡ find t 0 n
    here = rw sub-zero at first.0

    there : i ≡ n → ⊥
    there h = omega (arith, first.1)

    pub only_first : is_some second ≡ false → i ≡ only t n
    only_first e = only_one t n i here there (missed n (find t (i + 1) (n - (i + 1))) second behind e)

    pub two_pass : is_some second ≡ true → only t n ≡ n
    two_pass e = sym (only_doubled t n i here there (hit n (find t (i + 1) (n - (i + 1))) second behind e))
