-- Runs of bytes of one class, over any test t that a bad place passes: some places tested as a whole, and the blocks of a search.
-- Assumes nothing.
use Prim.Native.Nat.{ℕ, zero, suc, ◌+◌, ◌-◌, ◌≤◌, ◌<◌}
use mathlib.Core.Bool.{Bool, true, false, cond, ◌&&◌, ◌||◌, not, or-false, or_assoc, and-true, and_assoc}
use mathlib.Core.List.{List, [], ◌∷◌}
use mathlib.Core.Logic.{⊎_elim}
use mathlib.Core.Path.{◌≡◌, refl, sym, ◌∙◌}
use native.Mathlib.Omega.{arith}
use native.Mathlib.Nat.{add-zero, zero-add, add-suc, suc-add}
use native.Mathlib.Numerals.{add-one}
use lib.ListN.{length, take, drop, get_or}
use lib.Seq.{drop-cons, get_or-take, get_or-drop}
use Rattle.std.specs.List.{list_all, fold, prefix_len}
use Rattle.std.proofs.lemmas.List.{length-take, length-drop}
use Rattle.std.proofs.lemmas.List.Elements.{All-get_or}
use Rattle.std.proofs.lemmas.List.Sums.{AllPass-from_list_all}
use Rattle.layout.specs.Bytes.{byte_at}
use Rattle.layout.specs.Search.{some, find}
use Rattle.layout.proofs.Laws.{lt-or-le}
use Rattle.text.specs.Runs.{fails, Skipped}

-- ---- the test of some places as a whole

module _ (t : ℕ → Bool) where
  -- one place more
  some_more : (n i : ℕ) → some t i (suc n) ≡ (some t i n || t (i + n))
  unfolding some
  some_more zero i = rw (add-zero i) (or-false (t i))
  some_more (suc n) i = rw (some_more n (suc i), add-suc i n, ← suc-add i n) (sym (or_assoc (t i) (some t (suc i) n) (t (suc i + n))))

  -- before the first place, one place more, and the last
  pub all_none : (at : ℕ) → true ≡ not (some t at 0)
  unfolding some
  all_none at = refl

  pub all_more : (at i : ℕ) (all good : Bool) → all ≡ not (some t at i) → good ≡ not (t (at + i)) → (all && good) ≡ not (some t at (i + 1))
  all_more at i all good e h = rw (e, h, add-one i, some_more i at) (go (some t at i) (t (at + i)))
    where
      go : (a b : Bool) → (not a && not b) ≡ not (a || b)
      go true b = refl
      go false b = refl

  pub all_end : (at i n : ℕ) (all : Bool) → i ≤ n → n ≤ i → all ≡ not (some t at i) → all ≡ not (some t at n)
  all_end at i n all h l e = let q : n ≡ i = omega arith in rw q e

  -- no place of those tested passes
  none-at : (n i k : ℕ) → some t i n ≡ false → i ≤ k → k < i + n → t k ≡ false
  unfolding some
  none-at zero i k e h l = absurd (omega arith)
  none-at (suc n) i k e h l = go (t i) refl e (none-at n (suc i) k)
    where
      go : (u : Bool) → t i ≡ u → (u || some t (suc i) n) ≡ false → (some t (suc i) n ≡ false → suc i ≤ k → k < suc i + n → t k ≡ false) → t k ≡ false
      go true q w below = absurd (let z : ◌≡◌ {A = ℕ} 0 1 = cc in omega arith)
      go false q w below = ⊎_elim (λ m. below w m (omega arith)) (λ m. let v : k ≡ i = omega arith in rw v q) (lt-or-le i k)

  pub tested : (n i : ℕ) (all : Bool) → all ≡ not (some t i n) → all ≡ true → (k : ℕ) → i ≤ k → k < i + n → t k ≡ false
  tested n i all e g k = none-at n i k (go (some t i n) (sym e ∙ g))
    where
      go : (u : Bool) → not u ≡ true → u ≡ false
      go true q = sym q
      go false q = refl

  -- ---- the blocks of a search

  find_over : (m i n : ℕ) → ((k : ℕ) → i ≤ k → k < i + m → t k ≡ false) → find t i (m + n) ≡ find t (i + m) n
  unfolding find
  find_over zero i n h = rw (zero-add n, add-zero i)
  find_over (suc m) i n h = rw (suc-add m n, h i (omega arith) (omega arith), add-suc i m, ← suc-add i m) (find_over m (suc i) n (λ k l u. h k (omega arith) (omega arith)))

  pub find_past : (i j to : ℕ) → i ≤ j → j ≤ to → ((k : ℕ) → i ≤ k → k < j → t k ≡ false) → find t i (to - i) ≡ find t j (to - j)
  find_past i j to l u h =
      let q : to - i ≡ (j - i) + (to - j) = omega arith in
      let r : i + (j - i) ≡ j = omega arith in
      rw q (find_over (j - i) i (to - j) (λ k v w. h k v (omega arith)) ∙ rw r)

  pub skipped_first : (from to : ℕ) → from ≤ to → Skipped t from to from
  skipped_first from to h = record { low = omega arith; high = h; left = refl }

  -- one search behind another
  pub skipped_on : (from to i r : ℕ) → Skipped t from to i → Skipped t i to r → Skipped t from to r
  skipped_on from to i r so on = record { low = omega (arith, so.low, on.low); high = on.high; left = so.left ∙ on.left }

  -- a block by itself, then blocks of one width, then of another
  pub skipped_run : (from to n w r : ℕ) (all : Bool) → from + n ≤ to → all ≡ not (some t from n) → all ≡ true → Skipped t (from + n) to w → Skipped t w to r → Skipped t from to r
  skipped_run from to n w r all h e g wide narrow =
      let block : Skipped t from to (from + n) = record { low = omega arith; high = h; left = find_past from (from + n) to (omega arith) h (tested n from all e g) } in
      skipped_on from to (from + n) r block (skipped_on (from + n) to w r wide narrow)

-- ---- the code's words for a class of bytes

module _ (test : ℕ → Bool) where
  all_so_far : (xs : List ℕ) (all : Bool) → fold (λ a x. a && test x) all xs ≡ (all && list_all test xs)
  all_so_far [] all = sym (and-true all)
  all_so_far (x ∷ xs) all = all_so_far xs (all && test x) ∙ and_assoc all (test x) (list_all test xs)

  module _ (b : List ℕ) where
    -- the bytes of from..to, tested as a whole
    module _ (from to : ℕ) (all : Bool) (e : all ≡ fold (λ a x. a && test x) true (take (to - from) (drop from b))) (g : all ≡ true) (l : to ≤ length b) where
      pub passed : (k : ℕ) → from ≤ k → k < to → fails test b k ≡ false
      unfolding fails byte_at
      passed k h u =
          let q : from + (k - from) ≡ k = omega arith in
          let long : k - from < length (take (to - from) (drop from b)) = simp (length-take, length-drop) (omega arith) in
          let each = AllPass-from_list_all test (take (to - from) (drop from b)) (sym (all_so_far (take (to - from) (drop from b)) true) ∙ sym e ∙ g) in
          let one = All-get_or (λ x. test x ≡ true) (take (to - from) (drop from b)) (k - from) 0 long each in
          rw (← q, ← get_or-drop from b (k - from) 0, ← get_or-take (to - from) (drop from b) (k - from) 0 (omega arith), one)

      -- a search goes on behind them
      pub skipped_block : (start i end : ℕ) → Skipped (fails test b) start end i → from ≤ i → i ≤ to → to ≤ end → Skipped (fails test b) start end to
      skipped_block start i end so h u v = record {
        low = omega (arith, so.low);
        high = v;
        left = so.left ∙ find_past (fails test b) i to end u v (λ k m n. passed k (omega arith) n);
      }

    -- the first that is not of the class
    pub found : (n i : ℕ) → i + n ≤ length b → find (fails test b) i n ≡ i + prefix_len test (take n (drop i b))
    unfolding find fails byte_at
    found zero i h = omega arith
    found (suc n) i h = rw (drop-cons b i 0 (omega arith)) (go (test (get_or b i 0)) (found n (suc i) (omega arith)))
      where
        go : (u : Bool) → find (fails test b) (suc i) n ≡ suc i + prefix_len test (take n (drop (suc i) b))
            → cond (not u) i (find (fails test b) (suc i) n) ≡ i + cond u (1 + prefix_len test (take n (drop (suc i) b))) 0
        go true e = omega arith
        go false e = omega arith
