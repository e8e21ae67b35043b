-- File order: spans of a run of bytes, sorted by where they start. Spans that are apart and cover lie back to back.
-- Assumes nothing.
use Prim.Native.Nat.{ℕ, zero, suc, ◌+◌, ◌≤◌, ◌<◌}
use mathlib.Core.Bool.{Bool, true, false, cond}
use mathlib.Core.Logic.{◌⊎◌, inl, inr}
use mathlib.Core.List.{List, [], ◌∷◌, ◌++◌, map}
use mathlib.Core.Path.{◌≡◌, refl, ap, ◌∙◌}
use native.Mathlib.Omega.{arith}
use native.Mathlib.Nat.{le_trans}
use lib.Dec.{leb, ltb}
use lib.ListN.{length, take, drop, take-append-drop}
use lib.Seq.{drop-drop, drop-length}
use Rattle.layout.specs.Search.{All, Some, upto}
use Rattle.layout.specs.Order.{insert, sorted}
use Rattle.layout.proofs.Laws.{lt-or-le}
use borrow.Author.Tests.{leb-true, leb-false, lt-ltb, le-ltb}

module _ {A : Type 0} where
  -- each later one is so to each earlier one
  abbrev pub Pairs : (A → A → Type 0) → List A → Type 0
  Pairs R [] = Unit {0}
  Pairs R (x ∷ xs) = All (λ y. R x y) xs × Pairs R xs

  all_map : (P Q : A → Type 0) → ((x : A) → P x → Q x) → (xs : List A) → All P xs → All Q xs
  all_map P Q f [] h = tt
  all_map P Q f (x ∷ xs) h = (f x h.0, all_map P Q f xs h.1)

  -- one that is so, and all are otherwise
  all-some : (P Q : A → Type 0) → ((x : A) → P x → Q x → ⊥) → (xs : List A) → All P xs → Some Q xs → ⊥
  all-some P Q f [] h s = s
  all-some P Q f (x ∷ xs) h (inl q) = f x h.0 q
  all-some P Q f (x ∷ xs) h (inr s) = all-some P Q f xs h.1 s

  all_zip : (P Q : A → Type 0) (xs : List A) → All P xs → All Q xs → All (λ x. P x × Q x) xs
  all_zip P Q [] h k = tt
  all_zip P Q (x ∷ xs) h k = ((h.0, k.0), all_zip P Q xs h.1 k.1)

-- ---- back to back

module _ {A : Type 0} (from size : A → ℕ) where
  abbrev pub In : ℕ → A → Type 0
  In p x = (from x ≤ p) × (p < from x + size x)

  abbrev pub Apart : A → A → Type 0
  Apart x y = (p : ℕ) → In p x → In p y → ⊥

  abbrev pub Inside : ℕ → ℕ → A → Type 0
  Inside lo hi x = (0 < size x) × (lo ≤ from x) × (from x + size x ≤ hi)

  -- from lo to hi, one behind the other
  abbrev pub Chain : ℕ → ℕ → List A → Type 0
  Chain lo hi [] = lo ≡ hi
  Chain lo hi (x ∷ xs) = (from x ≡ lo) × Chain (lo + size x) hi xs

  pub chain :
      (xs : List A) (lo hi : ℕ) →
      lo ≤ hi →
      Pairs (λ x y. from x ≤ from y) xs →
      Pairs Apart xs →
      All (Inside lo hi) xs →
      ((p : ℕ) → lo ≤ p → p < hi → Some (In p) xs) →
      Chain lo hi xs
  chain [] lo hi le s a i c = go (lt-or-le lo hi)
    where
      go : (lo < hi) ⊎ (hi ≤ lo) → lo ≡ hi
      go (inl h) = absurd (c lo (omega arith) h)
      go (inr h) = omega arith
  chain (x ∷ xs) lo hi le s a i c = (starts (lt-or-le lo (from x)), chain xs (lo + size x) hi (omega (arith, at)) s.1 a.1 inside cover)
    where
      not-before : lo < from x → Some (In lo) (x ∷ xs) → ⊥
      not-before h (inl m) = omega arith
      not-before h (inr m) = all-some (λ y. from x ≤ from y) (In lo) (λ y l k. omega arith) xs s.0 m

      starts : (lo < from x) ⊎ (from x ≤ lo) → from x ≡ lo
      starts (inl h) = absurd (not-before h (c lo (omega arith) (omega arith)))
      starts (inr h) = omega arith

      at : from x ≡ lo
      at = starts (lt-or-le lo (from x))

      after : (y : A) → (from x ≤ from y) × (Apart x y × Inside lo hi y) → Inside (lo + size x) hi y
      after y h = (h.1.1.0, go (lt-or-le (from y) (lo + size x)), h.1.1.2)
        where
          go : (from y < lo + size x) ⊎ (lo + size x ≤ from y) → lo + size x ≤ from y
          go (inl l) = absurd (h.1.0 (from y) (h.0, omega (arith, at)) (omega arith, omega arith))
          go (inr l) = l

      inside : All (Inside (lo + size x) hi) xs
      inside = all_map (λ y. (from x ≤ from y) × (Apart x y × Inside lo hi y)) (Inside (lo + size x) hi) after xs
          (all_zip (λ y. from x ≤ from y) (λ y. Apart x y × Inside lo hi y) xs s.0 (all_zip (Apart x) (Inside lo hi) xs a.0 i.1))

      drop-first : (p : ℕ) → lo + size x ≤ p → Some (In p) (x ∷ xs) → Some (In p) xs
      drop-first p h (inl m) = absurd (omega (arith, at))
      drop-first p h (inr m) = m

      cover : (p : ℕ) → lo + size x ≤ p → p < hi → Some (In p) xs
      cover p h k = drop-first p h (c p (omega arith) k)

  -- the spans' bytes, joined
  abbrev pub joined : List ℕ → List A → List ℕ
  joined b [] = []
  joined b (x ∷ xs) = take (size x) (drop (from x) b) ++ joined b xs

  pub chain_joined : (b : List ℕ) (xs : List A) (lo : ℕ) → Chain lo (length b) xs → joined b xs ≡ drop lo b
  chain_joined b [] lo h = rw (h, drop-length)
  chain_joined b (x ∷ xs) lo h = rw (h.0, chain_joined b xs (lo + size x) h.1, ← drop-drop (size x) lo b) (take-append-drop (size x) (drop lo b))

-- ---- laws of sorting

module _ {A : Type 0} (from : A → ℕ) where
  insert_all : (P : A → Type 0) (x : A) (ys : List A) → P x → All P ys → All P (insert from x ys)
  insert_all P x [] p h = (p, tt)
  insert_all P x (y ∷ ys) p h = go (insert_all P x ys p h.1) (leb (from x) (from y))
    where
      go : All P (insert from x ys) → (t : Bool) → All P (cond t (x ∷ y ∷ ys) (y ∷ insert from x ys))
      go below true = (p, h)
      go below false = (h.0, below)

  insert-some : (P : A → Type 0) (x : A) (ys : List A) → Some P (x ∷ ys) → Some P (insert from x ys)
  insert-some P x [] h = h
  insert-some P x (y ∷ ys) h = go (insert-some P x ys) (leb (from x) (from y)) h
    where
      go : (Some P (x ∷ ys) → Some P (insert from x ys)) → (t : Bool) → Some P (x ∷ y ∷ ys) → Some P (cond t (x ∷ y ∷ ys) (y ∷ insert from x ys))
      go below true k = k
      go below false (inl k) = inr (below (inl k))
      go below false (inr (inl k)) = inl k
      go below false (inr (inr k)) = inr (below (inr k))

  insert_pairs : (R : A → A → Type 0) → ((x y : A) → R x y → R y x) → (x : A) (ys : List A) → All (R x) ys → Pairs R ys → Pairs R (insert from x ys)
  insert_pairs R flip x [] a h = (tt, tt)
  insert_pairs R flip x (y ∷ ys) a h = go (insert_pairs R flip x ys a.1 h.1) (leb (from x) (from y))
    where
      go : Pairs R (insert from x ys) → (t : Bool) → Pairs R (cond t (x ∷ y ∷ ys) (y ∷ insert from x ys))
      go below true = (a, h)
      go below false = (insert_all (R y) x ys (flip x y a.0) h.0, below)

  insert-sorted : (x : A) (ys : List A) → Pairs (λ y z. from y ≤ from z) ys → Pairs (λ y z. from y ≤ from z) (insert from x ys)
  insert-sorted x [] h = (tt, tt)
  insert-sorted x (y ∷ ys) h = go (insert-sorted x ys h.1) (leb (from x) (from y)) refl
    where
      go : Pairs (λ y z. from y ≤ from z) (insert from x ys) → (t : Bool) → leb (from x) (from y) ≡ t
          → Pairs (λ y z. from y ≤ from z) (cond t (x ∷ y ∷ ys) (y ∷ insert from x ys))
      go below true e = ((leb-true (from x) (from y) e, all_map (λ z. from y ≤ from z) (λ z. from x ≤ from z) (λ z l. le_trans (leb-true (from x) (from y) e) l) ys h.0), h)
      go below false e = (insert_all (λ z. from y ≤ from z) x ys (let l : from y < from x = leb-false (from x) (from y) e in omega arith) h.0, below)

  pub sorted_all : (P : A → Type 0) (xs : List A) → All P xs → All P (sorted from xs)
  sorted_all P [] h = tt
  sorted_all P (x ∷ xs) h = insert_all P x (sorted from xs) h.0 (sorted_all P xs h.1)

  pub sorted-some : (P : A → Type 0) (xs : List A) → Some P xs → Some P (sorted from xs)
  sorted-some P [] h = h
  sorted-some P (x ∷ xs) (inl h) = insert-some P x (sorted from xs) (inl h)
  sorted-some P (x ∷ xs) (inr h) = insert-some P x (sorted from xs) (inr (sorted-some P xs h))

  pub sorted_pairs : (R : A → A → Type 0) → ((x y : A) → R x y → R y x) → (xs : List A) → Pairs R xs → Pairs R (sorted from xs)
  sorted_pairs R flip [] h = tt
  sorted_pairs R flip (x ∷ xs) h = insert_pairs R flip x (sorted from xs) (sorted_all (R x) xs h.0) (sorted_pairs R flip xs h.1)

  pub sorted-sorted : (xs : List A) → Pairs (λ y z. from y ≤ from z) (sorted from xs)
  sorted-sorted [] = tt
  sorted-sorted (x ∷ xs) = insert-sorted x (sorted from xs) (sorted-sorted xs)

-- ---- ranks

-- how many of a list pass
unfoldable pub tally : {A : Type 0} → (A → Bool) → List A → ℕ
tally t [] = 0
tally t (x ∷ xs) = cond (t x) 1 0 + tally t xs

map-suc : (i n : ℕ) → map suc (upto i n) ≡ upto (suc i) n
map-suc i zero = refl
map-suc i (suc n) = ap (λ l. suc i ∷ l) (map-suc (suc i) n)

module _ {A : Type 0} (from : A → ℕ) where
  -- how many of xs start before p
  abbrev pub starting_before : List A → ℕ → ℕ
  starting_before xs p = tally (λ y. ltb (from y) p) xs

  insert-count : (t : A → Bool) (x : A) (ys : List A) → tally t (insert from x ys) ≡ cond (t x) 1 0 + tally t ys
  unfolding tally
  insert-count t x [] = refl
  insert-count t x (y ∷ ys) = go (insert-count t x ys) (leb (from x) (from y))
    where
      go : tally t (insert from x ys) ≡ cond (t x) 1 0 + tally t ys → (u : Bool) → tally t (cond u (x ∷ y ∷ ys) (y ∷ insert from x ys)) ≡ cond (t x) 1 0 + (cond (t y) 1 0 + tally t ys)
      go below true = refl
      go below false = rw below (omega arith)

  pub sorted-count : (t : A → Bool) (xs : List A) → tally t (sorted from xs) ≡ tally t xs
  unfolding tally
  sorted-count t [] = refl
  sorted-count t (x ∷ xs) = insert-count t x (sorted from xs) ∙ rw (sorted-count t xs)

module _ {A : Type 0} where
  map_same : (f g : A → ℕ) (xs : List A) → All (λ y. f y ≡ g y) xs → map f xs ≡ map g xs
  map_same f g [] h = refl
  map_same f g (x ∷ xs) h = rw (h.0, map_same f g xs h.1)

  map-map : (f : A → ℕ) (xs : List A) → map (λ y. suc (f y)) xs ≡ map suc (map f xs)
  map-map f [] = refl
  map-map f (x ∷ xs) = ap (λ l. suc (f x) ∷ l) (map-map f xs)

module _ {A : Type 0} (from size : A → ℕ) where
  chain_above : (xs : List A) (lo hi : ℕ) → Chain from size lo hi xs → All (λ y. lo ≤ from y) xs
  chain_above [] lo hi h = tt
  chain_above (x ∷ xs) lo hi h = (omega arith, all_map (λ y. lo + size x ≤ from y) (λ y. lo ≤ from y) (λ y l. omega arith) xs (chain_above xs (lo + size x) hi h.1))

  starting_before_none : (xs : List A) (p : ℕ) → All (λ y. p ≤ from y) xs → starting_before from xs p ≡ 0
  unfolding tally
  starting_before_none [] p h = refl
  starting_before_none (x ∷ xs) p h = rw (le-ltb (from x) p h.0, starting_before_none xs p h.1)

  starting_before_some : (x : A) (xs : List A) (p : ℕ) → from x < p → starting_before from (x ∷ xs) p ≡ suc (starting_before from xs p)
  unfolding tally
  starting_before_some x xs p h = rw (lt-ltb (from x) p h) (omega arith)

  -- in a chain the ranks are 0, 1, 2 and so on
  pub ranks : (xs : List A) (lo hi : ℕ) → Chain from size lo hi xs → All (λ x. 0 < size x) xs → map (λ x. starting_before from xs (from x)) xs ≡ upto 0 (length xs)
  ranks [] lo hi h z = refl
  ranks (x ∷ xs) lo hi h z =
      rw (
        starting_before_none (x ∷ xs) (from x) (omega arith, all_map (λ y. lo + size x ≤ from y) (λ y. from x ≤ from y) (λ y l. omega arith) xs above),
        map_same (λ y. starting_before from (x ∷ xs) (from y)) (λ y. suc (starting_before from xs (from y))) xs
            (all_map (λ y. lo + size x ≤ from y) (λ y. starting_before from (x ∷ xs) (from y) ≡ suc (starting_before from xs (from y))) (λ y l. starting_before_some x xs (from y) (omega arith)) xs above),
        map-map (λ y. starting_before from xs (from y)) xs,
        ranks xs (lo + size x) hi h.1 z.1,
        map-suc 0 (length xs),
      )
    where
      above : All (λ y. lo + size x ≤ from y) xs
      above = chain_above xs (lo + size x) hi h.1
