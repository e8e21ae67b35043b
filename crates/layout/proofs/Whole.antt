-- Demand 3: an accepted product is its headers and, in file order, the records of its sets; each byte lies in exactly one of them; and the
-- ranks of the non-empty sets are 0, 1 and so on.
-- Assumes nothing.
use Prim.Native.Nat.{ℕ, zero, suc, ◌+◌, ◌-◌, ◌≤◌, ◌<◌}
use mathlib.Core.Bool.{Bool, true, false, cond, ◌&&◌, and-true}
use mathlib.Core.Logic.{◌⊎◌, inl, inr}
use mathlib.Core.List.{List, [], ◌∷◌, ◌++◌, map}
use mathlib.Core.Path.{◌≡◌, refl, sym, ap, ◌∙◌, subst, fun_ext}
use native.Mathlib.Omega.{arith}
use native.Mathlib.Nat.{add_assoc, add-zero, le_of_suc-le-suc, not-suc-le-zero}
use lib.Dec.{T, ltb}
use lib.IntN.{pos}
use lib.ListN.{length, take, drop, get_or, replicate, take-append-drop}
use lib.Seq.{drop-drop, take-add, take-nil, take-length}
use Rattle.layout.specs.Bytes.{part}
use Rattle.layout.specs.Text.{whole}
use Rattle.layout.specs.Answer.{accepted}
use Rattle.layout.specs.Search.{All, Some, count, upto, sum, join}
use Rattle.layout.specs.Entries.{Entry, num_data_sets, headers_end, directory, at, non_empty, non_empty_at, start, extent, kind_of, is_variable}
use Rattle.layout.specs.States.{State, states_of}
use Rattle.layout.specs.Rules.{data_sets, verdict}
use Rattle.layout.specs.Faults.{NonEmpty, Byte, Fixed, Variable, NumbersFit}
use Rattle.layout.specs.Records.{variable_lengths, lengths, record_at, record_length, record_part, records}
use Rattle.layout.specs.Order.{sorted, select, start_at, non_empty_sets, file_order, before, rank, records_at, records_in_order}
use Rattle.layout.proofs.Laws.{lt-or-le, count_most, join-append}
use Rattle.layout.proofs.Chain.{Pairs, In, Apart, Inside, Chain, chain, joined, chain_joined, tally, sorted_all, sorted-some, sorted_pairs, sorted-sorted, sorted-count, starting_before, ranks}
use Rattle.layout.proofs.Tests.{non_empty-T, non_empty-extent, variable_T}
use Rattle.layout.proofs.Faults.{sum-replicate}
use Rattle.layout.proofs.Sound.{Sound, sound, no_records}

-- ---- what is claimed

-- the states of a product
abbrev pub states_in : List ℕ → List State
states_in b = states_of b (directory b)

-- a byte lies in one of these
pub data Part : Type 0 where
  main_header : Part
  specific_header : Part
  record' : ℕ → ℕ → Part  -- entry, record

abbrev pub Lies : List ℕ → ℕ → Part → Type 0
Lies b p main_header = p < 1247
Lies b p specific_header = (1247 ≤ p) × (p < headers_end b)
Lies b p (record' i j) =
    let e = at (directory b) i in
    (i < length (directory b)) × (j < length (lengths (states_in b) e)) × (record_at (states_in b) e j ≤ p) × (p < record_at (states_in b) e j + record_length (states_in b) e j)

-- every byte lies in the main header, the specific header or one record of one set, and in no two of them
abbrev pub EachByteOnce : List ℕ → Type 0
EachByteOnce b = (p : ℕ) → p < length b → (w : Part) × Lies b p w × ((v : Part) → Lies b p v → v ≡ w)

-- the records handed out, sets taken in file order, joined after the two headers, are the product itself
abbrev pub Joins : List ℕ → Type 0
Joins b = part b 0 1247 ++ (part b 1247 (headers_end b - 1247) ++ join (records_in_order b (states_in b) (directory b))) ≡ b

-- ---- the numbers that pass a test, of lo and the n - 1 after it

module _ (t : ℕ → Bool) where
  select-all : (P : ℕ → Type 0) (n lo : ℕ) → ((i : ℕ) → lo ≤ i → i < lo + n → T (t i) → P i) → All P (select t (upto lo n))
  select-all P zero lo f = tt
  select-all P (suc n) lo f = go (t lo) refl (select-all P n (suc lo) (λ i l h. f i (omega arith) (omega arith)))
    where
      go : (u : Bool) → t lo ≡ u → All P (select t (upto (suc lo) n)) → All P (cond u (lo ∷ select t (upto (suc lo) n)) (select t (upto (suc lo) n)))
      go true e below = (f lo (omega arith) (omega arith) (rw e tt), below)
      go false e below = below

  select_pairs : (R : ℕ → ℕ → Type 0) (n lo : ℕ) → ((i j : ℕ) → lo ≤ i → i < j → j < lo + n → T (t i) → T (t j) → R i j) → Pairs R (select t (upto lo n))
  select_pairs R zero lo f = tt
  select_pairs R (suc n) lo f = go (t lo) refl (select_pairs R n (suc lo) (λ i j l h k. f i j (omega arith) h (omega arith)))
    where
      go : (u : Bool) → t lo ≡ u → Pairs R (select t (upto (suc lo) n)) → Pairs R (cond u (lo ∷ select t (upto (suc lo) n)) (select t (upto (suc lo) n)))
      go true e below = (select-all (R lo) n (suc lo) (λ i l h. f lo i (omega arith) (omega arith) (omega arith) (rw e tt)), below)
      go false e below = below

  select-some : (P : ℕ → Type 0) (n lo i : ℕ) → lo ≤ i → i < lo + n → T (t i) → P i → Some P (select t (upto lo n))
  select-some P zero lo i l h k p = absurd (omega arith)
  select-some P (suc n) lo i l h k p = go (lt-or-le lo i) (t lo) refl (λ m. select-some P n (suc lo) i m (omega arith) k p)
    where
      go : (lo < i) ⊎ (i ≤ lo) → (u : Bool) → t lo ≡ u → (suc lo ≤ i → Some P (select t (upto (suc lo) n))) → Some P (cond u (lo ∷ select t (upto (suc lo) n)) (select t (upto (suc lo) n)))
      go (inl m) true e below = inr (below m)
      go (inl m) false e below = below m
      go (inr m) true e below = inl (subst P (omega arith) p)
      go (inr m) false e below = absurd (subst (λ (u : Bool). T u) e (subst (λ (j : ℕ). T (t j)) (omega arith) k))

  tally-select : (u : ℕ → Bool) (n lo : ℕ) → tally u (select t (upto lo n)) ≡ count (λ j. t j && u j) lo n
  unfolding tally count
  tally-select u zero lo = refl
  tally-select u (suc n) lo = go (t lo) (tally-select u n (suc lo))
    where
      go : (v : Bool) → tally u (select t (upto (suc lo) n)) ≡ count (λ j. t j && u j) (suc lo) n
          → tally u (cond v (lo ∷ select t (upto (suc lo) n)) (select t (upto (suc lo) n))) ≡ cond (v && u lo) 1 0 + count (λ j. t j && u j) (suc lo) n
      go true below = rw below
      go false below = rw below (omega arith)

-- all of a list
tally-all : {A : Type 0} (xs : List A) → tally (λ _. true) xs ≡ length xs
unfolding tally
tally-all [] = refl
tally-all (x ∷ xs) = rw (tally-all xs) (omega arith)

-- ---- records joined

map_shift : {A : Type 0} (f : ℕ → A) (i n : ℕ) → map f (upto (suc i) n) ≡ map (λ j. f (suc j)) (upto i n)
map_shift f i zero = refl
map_shift f i (suc n) = ap (λ (l : List _). f (suc i) ∷ l) (map_shift f (suc i) n)

-- the part of a run of parts of these lengths, from s on
abbrev part_from : List ℕ → ℕ → List ℕ → ℕ → List ℕ
part_from b s ns j = take (get_or ns j 0) (drop (s + sum (take j ns)) b)

part_shift : (b : List ℕ) (s n : ℕ) (ns : List ℕ) (j : ℕ) → part_from b s (n ∷ ns) (suc j) ≡ part_from b (s + n) ns j
unfolding sum
part_shift b s n ns j = rw (add_assoc s n (sum (take j ns)))

join_parts : (b : List ℕ) (ns : List ℕ) (s : ℕ) → join (map (part_from b s ns) (upto 0 (length ns))) ≡ take (sum ns) (drop s b)
unfolding sum
join_parts b [] s = refl
join_parts b (n ∷ ns) s =
    let e : map (λ j. part_from b s (n ∷ ns) (suc j)) (upto 0 (length ns)) ≡ map (part_from b (s + n) ns) (upto 0 (length ns)) = ap (λ (f : ℕ → List ℕ). map f (upto 0 (length ns))) (fun_ext (part_shift b s n ns)) in
    rw (
      map_shift (part_from b s (n ∷ ns)) 0 (length ns),
      e,
      join_parts b ns (s + n),
      take-add n (sum ns) (drop s b),
      drop-drop n s b,
      add-zero s,
    )

-- ---- one entry's records

module _ (ss : List State) (e : Entry) where
  -- a non-empty set's records fill it, by rule 10 or by rule 16
  pub lengths_fill : NumbersFit e → (Variable e → (length (variable_lengths ss (kind_of e)) ≡ e.count.magnitude) × (sum (variable_lengths ss (kind_of e)) ≡ extent e)) → NonEmpty e → sum (lengths ss e) ≡ extent e
  unfolding lengths extent
  lengths_fill fit filled h = go (is_variable e) refl ((fit.1 h.0).1.1 h.1).1
    where
      go : (v : Bool) → is_variable e ≡ v → Fixed e ⊎ Variable e → sum (cond v (variable_lengths ss (kind_of e)) (replicate e.count.magnitude e.record_size.magnitude)) ≡ e.size.magnitude
      go true q f = (filled ((variable_T e).0 (rw q tt))).1
      go false q (inl f) = sum-replicate e.count.magnitude e.record_size.magnitude ∙ f.1
      go false q (inr f) = absurd (subst (λ (v : Bool). T v) q ((variable_T e).1 f))

  pub records_joined : (b : List ℕ) → join (records b ss e) ≡ take (sum (lengths ss e)) (drop (start e) b)
  unfolding records record_part record_at record_length part
  records_joined b = join_parts b (lengths ss e) (start e)

module _ (b : List ℕ) (m : Sound b) where
  abbrev ds : List Entry
  ds = directory b

  abbrev from : ℕ → ℕ
  from i = start (at ds i)

  abbrev size : ℕ → ℕ
  size i = extent (at ds i)

  filled-set : (i : ℕ) → i < length ds → NonEmpty (at ds i) → sum (lengths (states_in b) (at ds i)) ≡ size i
  filled-set i l h = lengths_fill (states_in b) (at ds i) (m.headed.numbers i l) (m.filled i l) h

  -- rule 13, either way round
  apart : (i j : ℕ) → i < j → j < length ds → (p : ℕ) → Byte (at ds i) p → Byte (at ds j) p → ⊥
  apart i j h l p u v = m.headed.apart j l (i, h, (p, (v, u)))

  inside : All (Inside from size (headers_end b) (length b)) (non_empty_sets ds)
  unfolding non_empty_sets non_empty_at
  inside = select-all (non_empty_at ds) (Inside from size (headers_end b) (length b)) (length ds) 0
      (λ i l h k. let w = (non_empty-T (at ds i)).0 k in let r = m.headed.inside i (omega arith) w in (non_empty-extent (at ds i) w, r.0, r.1))

  pairs : Pairs (Apart from size) (non_empty_sets ds)
  unfolding non_empty_sets non_empty_at
  pairs = select_pairs (non_empty_at ds) (Apart from size) (length ds) 0
      (λ i j l h k u v p x y. apart i j h (omega arith) p ((non_empty-T (at ds i)).0 u, x) ((non_empty-T (at ds j)).0 v, y))

  cover : (p : ℕ) → headers_end b ≤ p → p < length b → Some (In from size p) (non_empty_sets ds)
  unfolding non_empty_sets non_empty_at
  cover p h l =
      let r = m.headed.covered p h l in
      select-some (non_empty_at ds) (In from size p) (length ds) 0 r.0 (omega arith) (omega (arith, r.1)) ((non_empty-T (at ds r.0)).1 r.2.0) r.2.1

  -- in file order the sets lie back to back, from the headers to the end
  pub back_to_back : Chain from size (headers_end b) (length b) (file_order ds)
  unfolding file_order start_at
  back_to_back = chain from size (sorted from (non_empty_sets ds)) (headers_end b) (length b) m.headed.headers
      (sorted-sorted from (non_empty_sets ds))
      (sorted_pairs from (Apart from size) (λ x y h p u v. h p v u) (non_empty_sets ds) pairs)
      (sorted_all from (Inside from size (headers_end b) (length b)) (non_empty_sets ds) inside)
      (λ p h l. sorted-some from (In from size p) (non_empty_sets ds) (cover p h l))

  all_in_order : (P : ℕ → Type 0) → ((i : ℕ) → i < length ds → NonEmpty (at ds i) → P i) → All P (file_order ds)
  unfolding file_order start_at non_empty_sets non_empty_at
  all_in_order P f = sorted_all from P (non_empty_sets ds) (select-all (non_empty_at ds) P (length ds) 0 (λ i l h k. f i (omega arith) ((non_empty-T (at ds i)).0 k)))

  join-records : (xs : List ℕ) → All (λ i. sum (lengths (states_in b) (at ds i)) ≡ size i) xs → join (join (map (records_at b (states_in b) ds) xs)) ≡ joined from size b xs
  unfolding records_at
  join-records [] h = refl
  join-records (i ∷ xs) h =
      join-append (records b (states_in b) (at ds i)) (join (map (records_at b (states_in b) ds) xs))
      ∙ rw (records_joined (states_in b) (at ds i) b, h.0, join-records xs h.1)

  after_main : 1247 ≤ headers_end b
  unfolding headers_end
  after_main = omega arith

  -- headers and records in file order, joined, are the product
  pub joins : Joins b
  unfolding records_in_order part
  joins =
      let q : 1247 + (headers_end b - 1247) ≡ headers_end b = let h = after_main in omega arith in
      let r : drop (headers_end b - 1247) (drop 1247 b) ≡ drop (headers_end b) b = drop-drop (headers_end b - 1247) 1247 b ∙ ap (λ (n : ℕ). drop n b) q in
      rw (
        join-records (file_order ds) (all_in_order (λ i. sum (lengths (states_in b) (at ds i)) ≡ size i) filled-set),
        chain_joined from size b (file_order ds) (headers_end b) back_to_back,
        ← r,
        take-append-drop (headers_end b - 1247) (drop 1247 b),
      )
      (take-append-drop 1247 b)

  -- ---- ranks

  -- the rank, counted over the list
  rank-counts : (i : ℕ) → rank ds i ≡ starting_before from (sorted from (non_empty_sets ds)) (from i)
  unfolding rank before non_empty_sets non_empty_at start_at
  rank-counts i = sym (sorted-count from (λ j. ltb (from j) (from i)) (non_empty_sets ds) ∙ tally-select (non_empty_at ds) (λ j. ltb (from j) (from i)) (length ds) 0)

  -- file order lists the ranks 0, 1, 2 and so on
  pub ranks_in_order : map (rank ds) (file_order ds) ≡ upto 0 (length (file_order ds))
  unfolding file_order start_at
  ranks_in_order =
      ap (λ (f : ℕ → ℕ). map f (sorted from (non_empty_sets ds))) (fun_ext rank-counts)
      ∙ ranks from size (sorted from (non_empty_sets ds)) (headers_end b) (length b) back_to_back (all_in_order (λ i. 0 < size i) (λ i l h. non_empty-extent (at ds i) h))

  -- every non-empty set is in file order, and nothing else is
  pub in_file_order : (i : ℕ) → i < length ds → NonEmpty (at ds i) → Some (λ j. j ≡ i) (file_order ds)
  unfolding file_order start_at non_empty_sets non_empty_at
  in_file_order i l h = sorted-some from (λ j. j ≡ i) (non_empty_sets ds) (select-some (non_empty_at ds) (λ j. j ≡ i) (length ds) 0 i (omega arith) (omega arith) ((non_empty-T (at ds i)).1 h) refl)

  pub only_sets_in_order : All (λ i. (i < length ds) × NonEmpty (at ds i)) (file_order ds)
  only_sets_in_order = all_in_order (λ i. (i < length ds) × NonEmpty (at ds i)) (λ i l h. (l, h))

  -- there are as many as rule 11 counts, at most one for each entry, and NUM_DATA_SETS says how many
  sets_all : length (file_order ds) ≡ data_sets ds
  unfolding data_sets file_order start_at non_empty_sets
  sets_all =
      sym (tally-all (sorted from (non_empty_sets ds)))
      ∙ sorted-count from (λ _. true) (non_empty_sets ds)
      ∙ tally-select (non_empty_at ds) (λ _. true) (length ds) 0
      ∙ ap (λ (t : ℕ → Bool). count t 0 (length ds)) (fun_ext (λ i. and-true (non_empty_at ds i)))

  pub sets_few : length (file_order ds) ≤ length ds
  unfolding data_sets
  sets_few = rw sets_all (count_most (non_empty_at ds) 0 (length ds))

  pub sets_counted : whole (num_data_sets b) ≡ pos (length (file_order ds))
  sets_counted = m.headed.counted ∙ ap pos (sym sets_all)

-- ---- which record of a set

locate : (ns : List ℕ) (q : ℕ) → q < sum ns → (j : ℕ) × (j < length ns) × (sum (take j ns) ≤ q) × (q < sum (take j ns) + get_or ns j 0)
unfolding sum
locate [] q h = absurd (omega arith)
locate (n ∷ ns) q h = go (lt-or-le q n) (locate ns (q - n))
  where
    go : (q < n) ⊎ (n ≤ q)
        → (q - n < sum ns → (j : ℕ) × (j < length ns) × (sum (take j ns) ≤ q - n) × (q - n < sum (take j ns) + get_or ns j 0))
        → (j : ℕ) × (j < length (n ∷ ns)) × (sum (take j (n ∷ ns)) ≤ q) × (q < sum (take j (n ∷ ns)) + get_or (n ∷ ns) j 0)
    go (inl l) below = (0, omega arith, omega arith, omega arith)
    go (inr l) below = let r = below (omega arith) in (suc r.0, omega (arith, r.1), omega (arith, r.2), omega (arith, r.3))

-- a record ends before a later one starts
ends : (ns : List ℕ) (j k : ℕ) → j < k → sum (take j ns) + get_or ns j 0 ≤ sum (take k ns)
unfolding sum
ends [] j k h = rw (take-nil {A = ℕ} j, take-nil {A = ℕ} k) (omega arith)
ends (n ∷ ns) zero (suc k) h = omega arith
ends (n ∷ ns) (suc j) (suc k) h = omega (arith, ends ns j k (le_of_suc-le-suc h))
ends (n ∷ ns) zero zero h = absurd (omega arith)
ends (n ∷ ns) (suc j) zero h = absurd (omega arith)

same_record : (ns : List ℕ) (j k q : ℕ) → sum (take j ns) ≤ q → q < sum (take j ns) + get_or ns j 0 → sum (take k ns) ≤ q → q < sum (take k ns) + get_or ns k 0 → k ≡ j
same_record ns j k q a c d e = go (lt-or-le j k) (lt-or-le k j)
  where
    go : (j < k) ⊎ (k ≤ j) → (k < j) ⊎ (j ≤ k) → k ≡ j
    go (inl h) u = absurd (omega (arith, ends ns j k h))
    go (inr h) (inl u) = absurd (omega (arith, ends ns k j u))
    go (inr h) (inr u) = omega arith

module _ (b : List ℕ) (m : Sound b) where
  -- an entry that has a record is a non-empty set
  has_bytes : (i j : ℕ) → i < length (directory b) → j < length (lengths (states_in b) (at (directory b) i)) → NonEmpty (at (directory b) i)
  has_bytes i j l h = (non_empty-T (at (directory b) i)).0 (go (non_empty (at (directory b) i)) refl)
    where
      go : (t : Bool) → non_empty (at (directory b) i) ≡ t → T t
      go true x = tt
      go false x = not-suc-le-zero (rw (no_records (at (directory b) i) (m.headed.numbers i l) (m.headed.typed i l) x (states_in b)) at h)

  -- a record lies in its set
  pub in-set : (p i j : ℕ) → Lies b p (record' i j) → Byte (at (directory b) i) p
  unfolding record_at record_length
  in-set p i j h =
      let ns = lengths (states_in b) (at (directory b) i) in
      let full = has_bytes i j h.0 h.1 in
      let e = ends ns j (length ns) h.1 in
      let f : sum (take (length ns) ns) ≡ extent (at (directory b) i) = rw (take-length ns) (filled-set b m i h.0 full) in
      (full, (omega (arith, h.2), omega (arith, h.3, e, f)))

  -- and in the product
  pub record-inside : (i j : ℕ) → i < length (directory b) → j < length (lengths (states_in b) (at (directory b) i))
      → record_at (states_in b) (at (directory b) i) j + record_length (states_in b) (at (directory b) i) j ≤ length b
  unfolding record_at record_length
  record-inside i j l h =
      let ns = lengths (states_in b) (at (directory b) i) in
      let full = has_bytes i j l h in
      let e = ends ns j (length ns) h in
      let f : sum (take (length ns) ns) ≡ extent (at (directory b) i) = rw (take-length ns) (filled-set b m i l full) in
      omega (arith, e, f, (m.headed.inside i l full).1)

  same_entry : (p i k : ℕ) → i < length (directory b) → k < length (directory b) → Byte (at (directory b) i) p → Byte (at (directory b) k) p → k ≡ i
  same_entry p i k l n u v = go (lt-or-le i k) (lt-or-le k i)
    where
      go : (i < k) ⊎ (k ≤ i) → (k < i) ⊎ (i ≤ k) → k ≡ i
      go (inl h) w = absurd (apart b m i k h n p u v)
      go (inr h) (inl w) = absurd (apart b m k i w l p v u)
      go (inr h) (inr w) = omega arith

  beyond : (p i j : ℕ) → Lies b p (record' i j) → headers_end b ≤ p
  beyond p i j h = omega (arith, (m.headed.inside i h.0 (has_bytes i j h.0 h.1)).0, (in-set p i j h).1.0)

  one-record : (p i j l : ℕ) → Lies b p (record' i j) → Lies b p (record' i l) → l ≡ j
  unfolding record_at record_length
  one-record p i j l h v =
      same_record (lengths (states_in b) (at (directory b) i)) j l (p - start (at (directory b) i)) (omega (arith, h.2)) (omega (arith, h.2, h.3)) (omega (arith, v.2)) (omega (arith, v.2, v.3))

  once : (p i j : ℕ) → Lies b p (record' i j) → (v : Part) → Lies b p v → v ≡ record' i j
  once p i j h main_header v = absurd (omega (arith, after_main b m, beyond p i j h))
  once p i j h specific_header v = absurd (omega (arith, v.1, beyond p i j h))
  once p i j h (record' k l) v =
      let e : k ≡ i = same_entry p i k h.0 v.0 (in-set p i j h) (in-set p k l v) in
      let f : l ≡ j = one-record p i j l h (rw e at v) in
      rw (e, f)

  there : (p : ℕ) → headers_end b ≤ p → p < length b → (i : ℕ) × (j : ℕ) × Lies b p (record' i j)
  unfolding record_at record_length
  there p h l =
      let r = m.headed.covered p h l in
      let f = filled-set b m r.0 r.1 r.2.0 in
      let x = r.2.1 in
      let s = locate (lengths (states_in b) (at (directory b) r.0)) (p - start (at (directory b) r.0)) (omega (arith, f, x)) in
      (r.0, s.0, (r.1, s.1, omega (arith, s.2, x), omega (arith, s.3, x)))

  pub each_byte_once : EachByteOnce b
  each_byte_once p l = go (lt-or-le p 1247) (lt-or-le p (headers_end b))
    where
      go : (p < 1247) ⊎ (1247 ≤ p) → (p < headers_end b) ⊎ (headers_end b ≤ p) → (w : Part) × Lies b p w × ((v : Part) → Lies b p v → v ≡ w)
      go (inl h) k = (main_header, h, λ v. elim v as (λ x. Lies b p x → x ≡ main_header) [ main_header ↦ λ g. refl | specific_header ↦ λ g. absurd (omega (arith, g.0)) | record' i j ↦ λ g. absurd (omega (arith, after_main b m, beyond p i j g)) ])
      go (inr h) (inl k) = (specific_header, (h, k), λ v. elim v as (λ x. Lies b p x → x ≡ specific_header) [ main_header ↦ λ g. absurd (omega arith) | specific_header ↦ λ g. refl | record' i j ↦ λ g. absurd (omega (arith, beyond p i j g)) ])
      go (inr h) (inr k) = let r = there p k l in (record' r.0 r.1, r.2, once p r.0 r.1 r.2)

-- demand 3, its second sentence
pub demand_3 : (b : List ℕ) → verdict b ≡ accepted → Joins b × EachByteOnce b
demand_3 b h = let m = sound b h in (joins b m, each_byte_once b m)
