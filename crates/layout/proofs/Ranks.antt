-- The ranks that a directory answers (order 10): in an accepted product those of the non-empty sets are 0, 1 and so on, each once, all other entries
-- carry 128, and the sets by rank are file order.
-- Assumes nothing.
use Prim.Native.Nat.{ℕ, zero, suc, ◌<◌}
use mathlib.Core.Bool.{Bool, true, false, cond}
use mathlib.Core.Logic.{inl, inr}
use mathlib.Core.List.{List, [], ◌∷◌, map, map-id}
use mathlib.Core.Path.{◌≡◌, refl, sym, ap, ◌∙◌}
use native.Mathlib.Omega.{arith}
use native.Mathlib.Nat.{zero-add}
use lib.Dec.{T, eqb, eqb→eq}
use lib.ListN.{length, get_or}
use lib.Seq.{ext_get_or}
use borrow.Author.Tests.{eq-eqb}
use Rattle.layout.specs.Search.{All, Some, find, upto}
use Rattle.layout.specs.Entries.{Entry, directory, at, non_empty_at}
use Rattle.layout.specs.Faults.{NonEmpty}
use Rattle.layout.specs.Order.{file_order, rank, rank_of, ranks_of, ranked, by_rank}
use Rattle.layout.specs.Answers.{directory_of}
use Rattle.layout.proofs.Laws.{find-only}
use Rattle.layout.proofs.Tests.{is_true, is_false, non_empty-T}
use Rattle.layout.proofs.Padded.{get_d_map, held_at}
use Rattle.layout.proofs.Sound.{Sound, length-map-upto, get_or-map-upto, length-directory}
use Rattle.layout.proofs.Whole.{ranks_in_order, in_file_order, only_sets_in_order, sets_few}

-- ---- lists by number

-- what is true of each is true of number k
all-at : {A : Type 0} (P : A → Type 0) (d : A) (xs : List A) → All P xs → (k : ℕ) → k < length xs → P (get_or xs k d)
all-at P d [] h k l = absurd (omega arith)
all-at P d (x ∷ xs) h zero l = h.0
all-at P d (x ∷ xs) h (suc k) l = all-at P d xs h.1 k (omega arith)

-- one of a list has a number
some_at : {A : Type 0} (P : A → Type 0) (d : A) (xs : List A) → Some P xs → (k : ℕ) × (k < length xs) × P (get_or xs k d)
some_at P d [] h = elim h [ ]
some_at P d (x ∷ xs) (inl h) = (0, omega arith, h)
some_at P d (x ∷ xs) (inr h) = let r = some_at P d xs h in (suc r.0, omega (arith, r.1), r.2)

-- a list whose numbers are counted up from 0
counted-at : (f : ℕ → ℕ) (xs : List ℕ) → map f xs ≡ upto 0 (length xs) → (k : ℕ) → k < length xs → f (get_or xs k 0) ≡ k
counted-at f xs h k l =
    sym (get_d_map f xs k 0 0 l) ∙ ap (λ (r : List ℕ). get_or r k 0) (h ∙ sym (map-id (upto 0 (length xs)))) ∙ get_or-map-upto (λ j. j) 0 0 (length xs) k l ∙ zero-add k

-- ---- what an entry carries

module _ (ds : List Entry) (i : ℕ) where
  carried_by : (t : Bool) → non_empty_at ds i ≡ t → rank_of ds i ≡ cond t (rank ds i) 128
  unfolding rank_of
  carried_by t e = ap (λ (u : Bool). cond u (rank ds i) 128) e

  rank_carried : T (non_empty_at ds i) → rank_of ds i ≡ rank ds i
  rank_carried h = carried_by true (is_true (non_empty_at ds i) h)

  none_carried : (T (non_empty_at ds i) → ⊥) → rank_of ds i ≡ 128
  none_carried h = carried_by false (is_false (non_empty_at ds i) h)

  -- and so a rank below 128 is a set's
  carried_set : rank_of ds i < 128 → T (non_empty_at ds i)
  carried_set h = go (non_empty_at ds i) (carried_by (non_empty_at ds i) refl)
    where
      go : (t : Bool) → rank_of ds i ≡ cond t (rank ds i) 128 → T t
      go true e = tt
      go false e = absurd (omega arith)

  pub answered : i < length ds → get_or (directory_of ds).ranks i 0 ≡ rank_of ds i
  unfolding directory_of ranks_of
  answered l =
      held_at 0 128 (map (rank_of ds) (upto 0 (length ds))) i (omega (arith, length-map-upto (rank_of ds) 0 (length ds)))
      ∙ get_or-map-upto (rank_of ds) 0 0 (length ds) i l ∙ ap (rank_of ds) (zero-add i)

-- ---- in an accepted product

module _ (b : List ℕ) (m : Sound b) where
  abbrev ds : List Entry
  ds = directory b

  abbrev carried : ℕ → ℕ
  carried i = get_or (directory_of ds).ranks i 0

  abbrev set : ℕ → ℕ
  set r = get_or (file_order ds) r 0

  pub is_set : (r : ℕ) → r < length (file_order ds) → (set r < length ds) × NonEmpty (at ds (set r))
  is_set r l = all-at (λ i. (i < length ds) × NonEmpty (at ds i)) 0 (file_order ds) (only_sets_in_order b m) r l

  -- the set that stands r-th in file order carries r
  pub rank_of-set : (r : ℕ) → r < length (file_order ds) → carried (set r) ≡ r
  unfolding non_empty_at
  rank_of-set r l =
      let s = is_set r l in
      answered ds (set r) s.0 ∙ rank_carried ds (set r) ((non_empty-T (at ds (set r))).1 s.1) ∙ counted-at (rank ds) (file_order ds) (ranks_in_order b m) r l

  -- a non-empty set stands in file order where its rank says
  pub set_of_rank : (i : ℕ) → i < length ds → NonEmpty (at ds i) → (carried i < length (file_order ds)) × (set (carried i) ≡ i)
  set_of_rank i l h =
      let s = some_at (λ j. j ≡ i) 0 (file_order ds) (in_file_order b m i l h) in
      let e : carried i ≡ s.0 = ap carried (sym s.2) ∙ rank_of-set s.0 s.1 in
      rw e (s.1, s.2)

  -- an entry without one carries 128
  pub no_rank : (i : ℕ) → i < length ds → (NonEmpty (at ds i) → ⊥) → carried i ≡ 128
  unfolding non_empty_at
  no_rank i l h = answered ds i l ∙ none_carried ds i (λ t. h ((non_empty-T (at ds i)).0 t))

  -- the sets by rank are file order
  pub by_rank_lem : by_rank (directory_of ds).ranks (length ds) (length (file_order ds)) ≡ file_order ds
  unfolding by_rank ranked non_empty_at
  by_rank_lem =
      let sets = length (file_order ds) in
      let entry = ranked (directory_of ds).ranks (length ds) in
      ext_get_or 0 (map entry (upto 0 sets)) (file_order ds) (length-map-upto entry 0 sets)
      (λ r l. let h : r < sets = omega (arith, length-map-upto entry 0 sets) in get_or-map-upto entry 0 0 sets r h ∙ ap entry (zero-add r) ∙ at-rank r h)
    where
      at-rank : (r : ℕ) → r < length (file_order ds) → find (λ i. eqb (carried i) r) 0 (length ds) ≡ set r
      at-rank r l = find-only (λ i. eqb (carried i) r) (length ds) (set r) (is_set r l).0 (rw (eq-eqb (carried (set r)) r (rank_of-set r l)) tt) only
        where
          only : (j : ℕ) → j < length ds → T (eqb (carried j) r) → j ≡ set r
          only j u t =
              let e : carried j ≡ r = eqb→eq (carried j) r t in
              let k : rank_of ds j < 128 = omega (arith, answered ds j u, sets_few b m, length-directory b, m.headed.few) in
              let s = set_of_rank j u ((non_empty-T (at ds j)).0 (carried_set ds j k)) in
              sym s.1 ∙ ap set e
