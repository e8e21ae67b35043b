-- Capped sums: one, and those of the four kinds.
-- Assumes nothing.
use Prim.Native.Nat.{ℕ, zero, suc, ◌+◌, ◌*◌, ◌-◌, ◌≤◌, ◌<◌}
use mathlib.Core.Bool.{Bool, true, false, cond, and-false}
use mathlib.Core.List.{List, [], ◌∷◌, map}
use mathlib.Core.Logic.{⊎_elim}
use mathlib.Core.Path.{◌≡◌, refl, sym, ◌∙◌}
use native.Mathlib.Omega.{arith}
use native.Mathlib.Nat.{add-zero, zero-add, add_assoc, mul-le-mul}
use lib.Dec.{eqb}
use lib.ListN.{length, get_or, set, replicate, length-set}
use lib.Seq.{get_or-set_same, get_or-set_other}
use borrow.Author.Tests.{le-leb, lt-leb, ne_eqb, eqb-true, eqb-false}
use Rattle.layout.specs.Bytes.{within}
use Rattle.layout.specs.Search.{upto, sum}
use Rattle.layout.specs.States.{State, of_kind}
use Rattle.layout.proofs.Laws.{lt-or-le}
use Rattle.states.specs.States.{cap, capped, Capped, added}

-- ---- one sum

pub capped_is : (n : ℕ) → n ≤ cap → capped n ≡ n
unfolding capped
capped_is n h = rw (le-leb n cap h)

pub zero-capped : capped 0 ≡ 0
zero-capped = capped_is 0 (omega arith)

pub capped_stops : (n : ℕ) → cap < n → capped n ≡ cap
unfolding capped
capped_stops n h = rw (lt-leb n cap h)

pub capped_le : (n : ℕ) → capped n ≤ cap
capped_le n = ⊎_elim (λ h. rw (capped_stops n h) (omega arith)) (λ h. rw (capped_is n h) h) (lt-or-le cap n)

-- a sum capped on the way
pub capped_plus : (n m : ℕ) → capped (capped n + m) ≡ capped (n + m)
capped_plus n m = ⊎_elim (λ h. rw (capped_stops n h, capped_stops (n + m) (omega arith)) (low m)) (λ h. rw (capped_is n h)) (lt-or-le cap n)
  where
    low : (m : ℕ) → capped (cap + m) ≡ cap
    low m = ⊎_elim (λ h. capped_stops (cap + m) h) (λ h. capped_is (cap + m) h ∙ omega arith) (lt-or-le cap (cap + m))

-- a number below the cap is met by the capped sum exactly where the sum meets it
pub capped-eqb : (n m : ℕ) → m < cap → eqb (capped n) m ≡ eqb n m
capped-eqb n m l = ⊎_elim (λ h. rw (capped_stops n h, ne_eqb cap m (λ q. omega arith), ne_eqb n m (λ q. omega arith))) (λ h. rw (capped_is n h)) (lt-or-le cap n)

-- 16 bits of records of 32 bits of bytes
pub bytes_small : (n m : ℕ) → n < 65536 → m < 4294967296 → n * m ≤ cap
bytes_small n m h l =
    let q : n * m ≤ 65535 * 4294967295 = mul-le-mul {n₂ = 65535} {m₂ = 4294967295} (omega arith) (omega arith) in
    omega arith

-- ---- the four kinds

module _ (low high x : ℕ) where
  pub within_in : low ≤ x → x ≤ high → within low high x ≡ true
  within_in l h = rw (le-leb low x l, le-leb x high h)

  pub within_below : x < low → within low high x ≡ false
  within_below l = rw (lt-leb low x l)

  pub within_above : high < x → within low high x ≡ false
  within_above h = rw (lt-leb x high h, and-false)

module _ (l : List ℕ) (kind more : ℕ) where
  -- a kind that is none of the four adds nothing
  pub added_below : kind < 1 → l ≡ added l kind more
  unfolding added
  added_below h = rw (within_below 1 4 kind h)

  pub added_above : 4 < kind → l ≡ added l kind more
  unfolding added
  added_above h = rw (within_above 1 4 kind h)

  -- one of the four is set
  pub added-one : 1 ≤ kind → kind ≤ 4 → set l (kind - 1) (capped (get_or l (kind - 1) 0 + more)) ≡ added l kind more
  unfolding added of_kind
  added-one h u = rw (within_in 1 4 kind h u)

  abbrev Is : ℕ → Bool → Type 0
  Is i t = get_or (added l kind more) i 0 ≡ cond t (capped (get_or l i 0 + more)) (get_or l i 0)

  -- so the sum of one kind is capped, and the others stay
  added-at : (i : ℕ) → length l ≡ 4 → i < 4 → Is i (eqb kind (suc i))
  added-at i four u = ⊎_elim below (λ lo. ⊎_elim above (λ hi. inside lo hi (eqb kind (suc i)) refl) (lt-or-le 4 kind)) (lt-or-le kind 1)
    where
      below : kind < 1 → Is i (eqb kind (suc i))
      below h = rw (← added_below h, ne_eqb kind (suc i) (λ q. omega arith))

      above : 4 < kind → Is i (eqb kind (suc i))
      above h = rw (← added_above h, ne_eqb kind (suc i) (λ q. omega arith))

      inside : 1 ≤ kind → kind ≤ 4 → (t : Bool) → eqb kind (suc i) ≡ t → Is i t
      inside lo hi true q =
          let same : kind - 1 ≡ i = omega (arith, eqb-true kind (suc i) q) in
          rw (← added-one lo hi, same) (get_or-set_same l i (capped (get_or l i 0 + more)) 0 (omega arith))
      inside lo hi false q = rw (← added-one lo hi) (get_or-set_other l (kind - 1) i (capped (get_or l (kind - 1) 0 + more)) 0 (λ e. eqb-false kind (suc i) q (omega arith)))

  -- any list stays as long as it is
  added-length : length (added l kind more) ≡ length l
  unfolding added
  added-length = go (within 1 4 kind)
    where
      go : (t : Bool) → length (cond t (set l (kind - 1) (capped (of_kind l kind + more))) l) ≡ length l
      go true = length-set l (kind - 1) (capped (of_kind l kind + more))
      go false = refl

-- capped sums stay capped
pub no_sums : Capped (replicate 4 0)
no_sums zero = omega arith
no_sums (suc zero) = omega arith
no_sums (suc (suc zero)) = omega arith
no_sums (suc (suc (suc zero))) = omega arith
no_sums (suc (suc (suc (suc i)))) = omega arith

set-capped : (l : List ℕ) (k v : ℕ) → v ≤ cap → Capped l → Capped (set l k v)
set-capped [] k v h c i = omega arith
set-capped (x ∷ l) zero v h c zero = h
set-capped (x ∷ l) zero v h c (suc i) = c (suc i)
set-capped (x ∷ l) (suc k) v h c zero = c zero
set-capped (x ∷ l) (suc k) v h c (suc i) = set-capped l k v h (λ j. c (suc j)) i

pub added-capped : (l : List ℕ) (kind more : ℕ) → Capped l → Capped (added l kind more)
unfolding added
added-capped l kind more c = go (within 1 4 kind)
  where
    go : (t : Bool) → Capped (cond t (set l (kind - 1) (capped (of_kind l kind + more))) l)
    go true = set-capped l (kind - 1) (capped (of_kind l kind + more)) (capped_le (of_kind l kind + more)) c
    go false = c

-- four sums, each capped
abbrev pub Four : List ℕ → Type 0
Four l = (length l ≡ 4) × Capped l

pub added_four : (l : List ℕ) (kind more : ℕ) → Four l → Four (added l kind more)
added_four l kind more f = (added-length l kind more ∙ f.0, added-capped l kind more f.1)

-- an array of four, by its places
by_places : (l : List ℕ) → length l ≡ 4 → l ≡ get_or l 0 0 ∷ get_or l 1 0 ∷ get_or l 2 0 ∷ get_or l 3 0 ∷ []
by_places [] e = absurd (omega arith)
by_places (a ∷ []) e = absurd (omega arith)
by_places (a ∷ b ∷ []) e = absurd (omega arith)
by_places (a ∷ b ∷ c ∷ []) e = absurd (omega arith)
by_places (a ∷ b ∷ c ∷ d ∷ []) e = refl
by_places (a ∷ b ∷ c ∷ d ∷ f ∷ l) e = absurd (omega arith)

-- ---- sums that more states are to be added to

module _ (g : ℕ → State → ℕ) where
  unfoldable pub left : List ℕ → List State → List ℕ
  left l ss = map (λ k. capped (get_or l (k - 1) 0 + sum (map (g k) ss))) (upto 1 4)

  pub left-none : (l : List ℕ) → Four l → l ≡ left l []
  unfolding left sum
  left-none l f = by_places l f.0 ∙ (λ j. at 0 j ∷ at 1 j ∷ at 2 j ∷ at 3 j ∷ [])
    where
      at : (i : ℕ) → get_or l i 0 ≡ capped (get_or l i 0 + 0)
      at i = sym (rw add-zero (capped_is (get_or l i 0) (f.1 i)))

  pub left_step : (l : List ℕ) (kind more : ℕ) (s : State) (ss : List State) → length l ≡ 4 → ((k : ℕ) → cond (eqb kind k) more 0 ≡ g k s) → left (added l kind more) ss ≡ left l (s ∷ ss)
  unfolding left sum
  left_step l kind more s ss e q = λ j. at 0 (omega arith) j ∷ at 1 (omega arith) j ∷ at 2 (omega arith) j ∷ at 3 (omega arith) j ∷ []
    where
      go : (x n : ℕ) (t : Bool) → capped (cond t (capped (x + more)) x + n) ≡ capped (x + (cond t more 0 + n))
      go x n true = rw (capped_plus, add_assoc)
      go x n false = rw zero-add

      at : (i : ℕ) → i < 4 → capped (get_or (added l kind more) i 0 + sum (map (g (suc i)) ss)) ≡ capped (get_or l i 0 + (g (suc i) s + sum (map (g (suc i)) ss)))
      at i h = rw (added-at l kind more i e h, ← q (suc i)) (go (get_or l i 0) (sum (map (g (suc i)) ss)) (eqb kind (suc i)))
