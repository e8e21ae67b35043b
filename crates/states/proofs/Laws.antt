-- States: where their numbers stand, the tests on them, the states that are left, their tally, and the records that they add to a variable set.
-- Assumes nothing.
use Rattle.std.specs.Prelude.{Option, Some, None}
use Prim.Native.Nat.{ℕ, zero, suc, ◌+◌, ◌*◌, ◌-◌, ◌≤◌, ◌<◌}
use mathlib.Core.Bool.{Bool, true, false, cond, ◌&&◌, not, and-false}
use mathlib.Core.List.{List, [], ◌∷◌, ◌++◌, map}
use mathlib.Core.Logic.{◌⊎◌, ⊎_elim}
use mathlib.Core.Path.{◌≡◌, refl, sym, ap, ◌∙◌}
use native.Mathlib.Omega.{arith}
use native.Mathlib.Nat.{add-zero, zero-add, add_assoc, zero-mul, suc-mul, suc-sub-suc, sub-zero, le_of_suc-le-suc}
use native.Mathlib.Numerals.{add-one}
use lib.Dec.{leb, ltb, eqb}
use lib.ListN.{length, take, drop, get_or, replicate, length-append, length-replicate}
use lib.Seq.{get_or-take, get_or-drop}
use borrow.Author.Tests.{lt-ltb, le-ltb, le-leb, lt-leb, eq-eqb, ne_eqb}
use Rattle.layout.specs.Bytes.{part, byte_at, unsigned_at}
use Rattle.layout.specs.Search.{upto, sum}
use Rattle.layout.specs.Entries.{Entry, at, start}
use Rattle.layout.specs.States.{State, state_fits, attached, state_count, state_lengths, state_bytes, state_at, state_in, states_entry, states_at, states_of, first_bad, count_of_kind, total_of_kind, tally_of, of_kind}
use Rattle.layout.specs.Records.{variable_lengths}
use Rattle.layout.proofs.Laws.{lt-or-le}
use Rattle.states.specs.declared.Tally.{Tally}
use Rattle.states.specs.declared.Found.{Found}
use Rattle.states.specs.States.{state_from, states_from, cap, capped, Capped, added, tally_is, with_state, after, no_tally, found_behind, found}
use Rattle.states.proofs.Sums.{zero-capped, capped_is, capped_plus, no_sums, added-capped, Four, added_four, left, left-none, left_step}

-- ---- the numbers of a state

-- a number of a part, by its place in the whole
pub unsigned-part : (b : List ℕ) (at n off w : ℕ) → off + w ≤ n → unsigned_at (part b at n) off w ≡ unsigned_at b (at + off) w
unfolding unsigned_at byte_at part
unsigned-part b at n off zero h = refl
unsigned-part b at n off (suc w) h = rw (unsigned-part b at n off w (omega arith), get_or-take n (drop at b) (off + w) 0 (omega arith), get_or-drop at b (off + w) 0, add_assoc at off w)

pub unsigned-one : (b : List ℕ) (at : ℕ) → unsigned_at b at 1 ≡ get_or b at 0
unfolding unsigned_at byte_at
unsigned-one b at = rw (zero-add (get_or b (at + 0) 0), add-zero at)

-- ---- the tests on a state

module _ (s : State) where
  pub fits_detached : s.flag ≡ 1 → true ≡ state_fits s
  unfolding state_fits
  fits_detached e = rw (eq-eqb s.flag 1 e)

  module _ (one : s.flag ≡ 1 → ⊥) where
    pub bad-flag : (s.flag ≡ 0 → ⊥) → false ≡ state_fits s
    unfolding state_fits
    bad-flag z = rw (ne_eqb s.flag 1 one, ne_eqb s.flag 0 z)

    pub bad_kind : (s.kind < 1) ⊎ (4 < s.kind) → false ≡ state_fits s
    unfolding state_fits
    bad_kind h = ⊎_elim (λ l. rw (ne_eqb s.flag 1 one, lt-leb 1 s.kind l, and-false)) (λ l. rw (ne_eqb s.flag 1 one, lt-leb s.kind 4 l, and-false, and-false)) h

    module _ (z : s.flag ≡ 0) (lo : 1 ≤ s.kind) (hi : s.kind ≤ 4) where
      pub fits-empty : s.count ≡ 0 → true ≡ state_fits s
      unfolding state_fits
      fits-empty e = rw (eq-eqb s.flag 0 z, ne_eqb s.flag 1 one, le-leb 1 s.kind lo, le-leb s.kind 4 hi, lt-leb 1 s.count (omega arith))

      pub fits-filled : (s.count ≡ 0 → ⊥) → not (eqb s.record_length 0) ≡ state_fits s
      unfolding state_fits
      fits-filled n = rw (eq-eqb s.flag 0 z, ne_eqb s.flag 1 one, le-leb 1 s.kind lo, le-leb s.kind 4 hi, le-leb 1 s.count (omega arith)) (positive s.record_length)
        where
          positive : (n : ℕ) → not (eqb n 0) ≡ leb 1 n
          positive n = ⊎_elim (λ l. rw (ne_eqb n 0 (λ q. omega arith), le-leb 1 n l)) (λ l. rw (eq-eqb n 0 (omega arith), lt-leb 1 n (omega arith))) (lt-or-le 0 n)

  module _ (kind : ℕ) where
    pub count_detached : (s.flag ≡ 0 → ⊥) → 0 ≡ state_count kind s
    unfolding state_count attached
    count_detached z = rw (ne_eqb s.flag 0 z)

    pub count-other : (s.kind ≡ kind → ⊥) → 0 ≡ state_count kind s
    unfolding state_count attached
    count-other n = rw (ne_eqb s.kind kind n, and-false)

    pub count-attached : s.flag ≡ 0 → s.kind ≡ kind → s.count ≡ state_count kind s
    unfolding state_count attached
    count-attached z e = rw (eq-eqb s.flag 0 z, eq-eqb s.kind kind e)

  -- a state adds to a set of its own kind alone
  own_count : (k : ℕ) → cond (eqb s.kind k) (state_count s.kind s) 0 ≡ state_count k s
  unfolding state_count attached
  own_count k = go (eqb s.kind k) refl
    where
      go : (t : Bool) → eqb s.kind k ≡ t → cond t (cond (eqb s.flag 0 && eqb s.kind s.kind) s.count 0) 0 ≡ cond (eqb s.flag 0 && t) s.count 0
      go true e = rw (eq-eqb s.kind s.kind refl)
      go false e = rw (and-false (eqb s.flag 0))

  own_bytes : (k : ℕ) → cond (eqb s.kind k) (state_bytes s.kind s) 0 ≡ state_bytes k s
  unfolding state_bytes
  own_bytes k = go (eqb s.kind k) (own_count k)
    where
      go : (t : Bool) → cond t (state_count s.kind s) 0 ≡ state_count k s → cond t (state_count s.kind s * s.record_length) 0 ≡ state_count k s * s.record_length
      go true e = rw e
      go false e = rw (← e, zero-mul s.record_length)

-- ---- the states that are left

-- those of n states from number i on
unfoldable pub rest_from : List ℕ → ℕ → ℕ → ℕ → List State
rest_from b start n i = map (state_from b start) (upto i (n - i))

module _ (b : List ℕ) (start n : ℕ) where
  pub rest_whole : rest_from b start n 0 ≡ states_from b start n
  unfolding rest_from states_from
  rest_whole = rw (sub-zero n)

  rest_step : (i : ℕ) → i < n → rest_from b start n i ≡ state_from b start i ∷ rest_from b start n (i + 1)
  unfolding rest_from
  rest_step i h = let q : n - i ≡ suc (n - suc i) = omega arith in rw (q, add-one i)

  rest_end : (i : ℕ) → n ≤ i → rest_from b start n i ≡ []
  unfolding rest_from
  rest_end i h = let q : n - i ≡ 0 = omega arith in rw q

-- the states of a product are those of its states' entry
pub states-of : (b : List ℕ) (ds : List Entry) → states_of b ds ≡ states_from b (start (at ds (states_entry ds))) (at ds (states_entry ds)).count.magnitude
unfolding states_of states_at states_from state_in state_from state_at
states-of b ds = refl

-- ---- the tally

-- the number of states that fit goes on only from where all before fit
bad_step : (bad i more : ℕ) (t : Bool) → bad ≤ i
    → cond (eqb (cond (eqb bad i && t) (bad + 1) bad) (i + 1)) (i + 1 + more) (cond (eqb bad i && t) (bad + 1) bad) ≡ cond (eqb bad i) (i + cond t (suc more) 0) bad
bad_step bad i more t h = ⊎_elim (λ l. rw (ne_eqb bad i (λ q. omega arith), ne_eqb bad (i + 1) (λ q. omega arith))) (λ l. go t (omega arith)) (lt-or-le bad i)
  where
    go : (t : Bool) → bad ≡ i → cond (eqb (cond (eqb bad i && t) (bad + 1) bad) (i + 1)) (i + 1 + more) (cond (eqb bad i && t) (bad + 1) bad) ≡ cond (eqb bad i) (i + cond t (suc more) 0) bad
    go true q = rw (q, eq-eqb i i refl, eq-eqb (i + 1) (i + 1) refl) (omega arith)
    go false q = rw (q, eq-eqb i i refl, ne_eqb i (i + 1) (λ z. omega arith)) (omega arith)

bad_bound : (bad i : ℕ) (t : Bool) → bad ≤ i → cond t (bad + 1) bad ≤ i + 1
bad_bound bad i true h = omega arith
bad_bound bad i false h = omega arith

after_is : (t : Tally) (i : ℕ) (ss : List State) → Four t.counts → Four t.totals → t.bad ≤ i
    → after t i ss ≡ record { bad = cond (eqb t.bad i) (i + first_bad ss) t.bad; counts = left state_count t.counts ss; totals = left state_bytes t.totals ss }
unfolding after first_bad with_state
after_is t i [] e f h = λ j. record { bad = none j; counts = left-none state_count t.counts e j; totals = left-none state_bytes t.totals f j }
  where
    none : t.bad ≡ cond (eqb t.bad i) (i + 0) t.bad
    none = ⊎_elim (λ l. rw (ne_eqb t.bad i (λ q. omega arith))) (λ l. rw (eq-eqb t.bad i (omega arith)) (omega arith)) (lt-or-le t.bad i)
after_is t i (s ∷ ss) e f h =
    after_is (with_state t s i) (i + 1) ss (added_four t.counts s.kind (state_count s.kind s) e) (added_four t.totals s.kind (state_bytes s.kind s) f) (bad_bound t.bad i (eqb t.bad i && state_fits s) h)
    ∙ (λ j. record {
      bad = bad_step t.bad i (first_bad ss) (state_fits s) h j;
      counts = left_step state_count t.counts s.kind (state_count s.kind s) s ss e.0 (own_count s) j;
      totals = left_step state_bytes t.totals s.kind (state_bytes s.kind s) s ss f.0 (own_bytes s) j;
    })

pub after-all : (ss : List State) → after no_tally 0 ss ≡ tally_is (tally_of ss)
unfolding tally_is tally_of left count_of_kind total_of_kind
after-all ss = after_is no_tally 0 ss (refl, no_sums) (refl, no_sums) (omega arith) ∙ simp zero-add

-- one more state: what is left of the tally is the whole tally
pub after_step : (b : List ℕ) (start n i : ℕ) (t u : Tally) (s : State) → i < n → s ≡ state_from b start i → u ≡ with_state t s i
    → after t i (rest_from b start n i) ≡ after u (i + 1) (rest_from b start n (i + 1))
unfolding after
after_step b start n i t u s h e q = rw (rest_step b start n i h, q, e)

pub after_end : (b : List ℕ) (start n i : ℕ) (t : Tally) → n ≤ i → after t i (rest_from b start n i) ≡ t
unfolding after
after_end b start n i t h = rw (rest_end b start n i h)

-- one more state, by the tally's three parts
pub with_parts : (t u : Tally) (s : State) (i more : ℕ) (fits : Bool) → more ≡ state_count s.kind s → fits ≡ state_fits s
    → u.bad ≡ cond (eqb t.bad i && fits) (t.bad + 1) t.bad → u.counts ≡ added t.counts s.kind more → u.totals ≡ added t.totals s.kind (more * s.record_length)
    → u ≡ with_state t s i
unfolding with_state state_bytes
with_parts t u s i more fits e f b c d = λ j. record {
  bad = (b ∙ ap (λ (x : Bool). cond (eqb t.bad i && x) (t.bad + 1) t.bad) f) j;
  counts = (c ∙ ap (added t.counts s.kind) e) j;
  totals = (d ∙ ap (λ (n : ℕ). added t.totals s.kind (n * s.record_length)) e) j;
}

-- the sums stay capped
pub with_capped : (t u : Tally) (s : State) (i : ℕ) → u ≡ with_state t s i → Capped t.counts → Capped t.totals → Capped u.counts × Capped u.totals
unfolding with_state
with_capped t u s i q e f = rw q (added-capped t.counts s.kind (state_count s.kind s) e, added-capped t.totals s.kind (state_bytes s.kind s) f)

-- ---- the records that states add to a set

module _ (size : ℕ) (ns : List ℕ) where
  pub sum_hit : (n j : ℕ) → j ≤ n → sum (take j (replicate n size ++ ns)) ≡ j * size
  unfolding sum
  sum_hit n zero h = sym (zero-mul size)
  sum_hit zero (suc j) h = absurd (omega arith)
  sum_hit (suc n) (suc j) h = rw (sum_hit n j (le_of_suc-le-suc h), suc-mul j size) (omega arith)

  sum_miss : (n j : ℕ) → n ≤ j → sum (take j (replicate n size ++ ns)) ≡ n * size + sum (take (j - n) ns)
  unfolding sum
  sum_miss zero j h = rw (sub-zero j, zero-mul size, zero-add)
  sum_miss (suc n) zero h = absurd (omega arith)
  sum_miss (suc n) (suc j) h = rw (sum_miss n j (le_of_suc-le-suc h), suc-mul n size, suc-sub-suc j n) (omega arith)

  pub at_hit : (n j : ℕ) → j < n → get_or (replicate n size ++ ns) j 0 ≡ size
  at_hit zero j h = absurd (omega arith)
  at_hit (suc n) zero h = refl
  at_hit (suc n) (suc j) h = at_hit n j (le_of_suc-le-suc h)

  at_miss : (n j : ℕ) → n ≤ j → get_or (replicate n size ++ ns) j 0 ≡ get_or ns (j - n) 0
  at_miss zero j h = rw (sub-zero j)
  at_miss (suc n) zero h = absurd (omega arith)
  at_miss (suc n) (suc j) h = rw (suc-sub-suc j n) (at_miss n j (le_of_suc-le-suc h))

  pub records-length : (n : ℕ) → length (replicate n size ++ ns) ≡ n + length ns
  records-length n = length-append (replicate n size) ns ∙ rw (length-replicate n size)

  found_hit : (before n j : ℕ) → j < n → found_behind before (replicate n size ++ ns) j ≡ Some (record { before = capped (before + j * size); length = size })
  unfolding found_behind
  found_hit before n j h = rw (records-length n, lt-ltb j (n + length ns) (omega arith), sum_hit n j (omega arith), at_hit n j h)

  found_miss : (before n j : ℕ) → n ≤ j → found_behind before (replicate n size ++ ns) j ≡ found_behind (capped (before + n * size)) ns (j - n)
  unfolding found_behind
  found_miss before n j h = rw (records-length n, sum_miss n j h, at_miss n j h, capped_plus, add_assoc, same)
    where
      same : ltb j (n + length ns) ≡ ltb (j - n) (length ns)
      same = ⊎_elim (λ l. rw (lt-ltb j (n + length ns) l, lt-ltb (j - n) (length ns) (omega arith))) (λ l. rw (le-ltb j (n + length ns) l, le-ltb (j - n) (length ns) (omega arith))) (lt-or-le j (n + length ns))

-- the lengths that the states from number i on give: those of state i and of the rest, or none
pub rest_lengths : (b : List ℕ) (start n kind i : ℕ) (s : State) (m : ℕ) → i < n → s ≡ state_from b start i → m ≡ state_count kind s
    → variable_lengths (rest_from b start n i) kind ≡ replicate m s.record_length ++ variable_lengths (rest_from b start n (i + 1)) kind
unfolding variable_lengths state_lengths
rest_lengths b start n kind i s m h e q = rw (rest_step b start n i h, q, e)

pub no_rest : (b : List ℕ) (start n kind i : ℕ) → n ≤ i → variable_lengths (rest_from b start n i) kind ≡ []
unfolding variable_lengths
no_rest b start n kind i h = rw (rest_end b start n i h)

-- what is left of the search for a record is the whole search: at a state that holds it, behind one that does not, and behind all
module _ (b : List ℕ) (start n kind i before j : ℕ) (f : Option Found) (so : f ≡ found_behind before (variable_lengths (rest_from b start n i) kind) j) where
  module _ (s : State) (m u : ℕ) (h : i < n) (e : s ≡ state_from b start i) (q : m ≡ state_count kind s) where
    pub record_here : j < m → u ≡ capped (before + j * s.record_length) → Some (record { before = u; length = s.record_length }) ≡ f
    record_here l r = sym (so ∙ rw (rest_lengths b start n kind i s m h e q, r) (found_hit s.record_length (variable_lengths (rest_from b start n (i + 1)) kind) before m j l))

    pub record_later : m ≤ j → u ≡ capped (before + m * s.record_length) → f ≡ found_behind u (variable_lengths (rest_from b start n (i + 1)) kind) (j - m)
    record_later l r = so ∙ rw (rest_lengths b start n kind i s m h e q, r) (found_miss s.record_length (variable_lengths (rest_from b start n (i + 1)) kind) before m j l)

  pub record_nowhere : n ≤ i → None ≡ f
  unfolding found_behind
  record_nowhere h = sym (so ∙ rw (no_rest b start n kind i h, le-ltb j 0 (omega arith)))

-- ---- for callers: sums that the cap leaves as they are

pub of_kind-capped : (l : List ℕ) (kind : ℕ) → of_kind (map capped l) kind ≡ capped (of_kind l kind)
unfolding of_kind
of_kind-capped l kind = at l (kind - 1)
  where
    at : (l : List ℕ) (i : ℕ) → get_or (map capped l) i 0 ≡ capped (get_or l i 0)
    at [] i = sym zero-capped
    at (n ∷ l) zero = refl
    at (n ∷ l) (suc i) = at l i

pub sum-take : (j : ℕ) (ns : List ℕ) → sum (take j ns) ≤ sum ns
unfolding sum
sum-take zero ns = omega arith
sum-take (suc j) [] = omega arith
sum-take (suc j) (n ∷ ns) = let h = sum-take j ns in omega arith

-- the bytes before a record are not capped where the whole set's are not
pub found_exact : (ns : List ℕ) (j : ℕ) → sum ns ≤ cap → found ns j ≡ cond (ltb j (length ns)) (Some (record { before = sum (take j ns); length = get_or ns j 0 })) None
unfolding found found_behind
found_exact ns j h = let q = sum-take j ns in rw (zero-add (sum (take j ns)), capped_is (sum (take j ns)) (omega arith))
