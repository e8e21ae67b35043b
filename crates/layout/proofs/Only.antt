-- The only number that passes, by two searches: the first that passes, and a second one behind it.
-- Assumes nothing.
use Prim.Native.Nat.{ℕ, suc, ◌+◌, ◌-◌, ◌≤◌, ◌<◌}
use mathlib.Core.Bool.{Bool, true, false, cond}
use mathlib.Core.Path.{◌≡◌, sym, ◌∙◌}
use native.Mathlib.Omega.{arith}
use native.Mathlib.Nat.{zero-add}
use native.Mathlib.Numerals.{add-one}
use lib.Dec.{eqb}
use borrow.Author.Tests.{ne_eqb}
use Rattle.layout.specs.Search.{count, find, only}
use Rattle.layout.proofs.Laws.{count_same, find_same, find_bounds, count_none, count-found}

two_or_more : (n : ℕ) → eqb (suc (suc n)) 1 ≡ false
two_or_more n = ne_eqb (suc (suc n)) 1 (λ e. omega arith)

-- two tests that agree have the same only number
pub only_same : (t u : ℕ → Bool) (n : ℕ) → ((k : ℕ) → k < n → t k ≡ u k) → only t n ≡ only u n
unfolding only
only_same t u n h = rw (count_same t u 0 n (λ k l m. h k (omega arith)), find_same t u 0 n (λ k l m. h k (omega arith)))

pub only-most : (t : ℕ → Bool) (n : ℕ) → only t n ≤ n
unfolding only
only-most t n = go (eqb (count t 0 n) 1)
  where
    go : (x : Bool) → cond x (find t 0 n) n ≤ n
    go true = omega (arith, (find_bounds t 0 n).1)
    go false = omega arith

module _ (t : ℕ → Bool) (n : ℕ) where
  -- there is none
  pub only-missing : find t 0 n ≡ n → n ≡ only t n
  unfolding only
  only-missing h = rw (count_none t 0 n (h ∙ sym (zero-add n)))

  module _ (i : ℕ) (here : i ≡ find t 0 n) (there : i ≡ n → ⊥) where
    pub first-inside : i < n
    first-inside = omega (arith, here, there, (find_bounds t 0 n).1)

    behind : count t 0 n ≡ suc (count t (suc i) (n - suc i))
    behind = let l = first-inside in count-found t 0 n (omega (arith, here)) ∙ rw (← here, zero-add n)

    -- the first is the only one
    pub only_one : find t (i + 1) (n - (i + 1)) ≡ n → i ≡ only t n
    unfolding only
    only_one h =
        let q : n ≡ suc i + (n - suc i) = omega (arith, first-inside) in
        rw (behind, count_none t (suc i) (n - suc i) ((rw add-one at h) ∙ q)) here

    -- there is a second
    pub only_doubled : (find t (i + 1) (n - (i + 1)) ≡ n → ⊥) → n ≡ only t n
    unfolding only
    only_doubled h =
        let g : find t (suc i) (n - suc i) ≡ n → ⊥ = rw add-one at h in
        let k : find t (suc i) (n - suc i) < suc i + (n - suc i) = omega (arith, first-inside, (find_bounds t (suc i) (n - suc i)).1, g) in
        rw (behind, count-found t (suc i) (n - suc i) k, two_or_more (count t (suc (find t (suc i) (n - suc i))) (suc i + (n - suc i) - suc (find t (suc i) (n - suc i)))))
