-- The tests of sets by their numbers, the searches step by step, and the rules by the arrays against the rules over a directory that they hold.
-- Assumes nothing.
use Prim.Native.Nat.{ℕ, zero, suc, ◌+◌, ◌-◌, ◌≤◌, ◌<◌}
use mathlib.Core.Bool.{Bool, true, false, ◌&&◌, not, and-true, and-false}
use mathlib.Core.List.{List}
use mathlib.Core.Logic.{◌⊎◌, inl, inr, ⊎_elim}
use mathlib.Core.Path.{◌≡◌, refl, sym, ◌∙◌}
use native.Mathlib.Omega.{arith}
use native.Mathlib.Nat.{sub-zero}
use lib.Dec.{leb, ltb, eqb}
use lib.ListN.{length, get_or}
use borrow.Author.Count.{below_more}
use borrow.Author.Tests.{lt-ltb, le-ltb, le-leb, lt-leb, eq-eqb, ne_eqb, ltb-true, leb-true, not-true, not-false}
use Rattle.layout.specs.Answer.{Answer, accepted, refused, need}
use Rattle.layout.specs.Search.{first, some}
use Rattle.layout.specs.Entries.{Entry, shares}
use Rattle.layout.specs.Rules.{set_inside, rule12_at, shares_at, rule13_at}
use Rattle.layout.proofs.Laws.{lt-or-le, not-not, leb-not, ltb_same, some_same, some_step, first_same, first_step}
use Rattle.placement.specs.Sets.{is_inside, overlaps, overlaps_at, largest, Between, Clear, rule12_by, rule13_by, Held, Outside, Overlapping}

-- ---- one set, and two, by their numbers

ltb-not : (a b c d : ℕ) → (a < b → d < c) → (b ≤ a → c ≤ d) → ltb a b ≡ not (leb c d)
ltb-not a b c d t f = ltb_same a b d c t f ∙ sym (rw (leb-not c d) (not-not (ltb d c)))

module _ (offset size h n : ℕ) where
  pub inside-empty : size ≡ 0 → false ≡ not (is_inside h n offset size)
  unfolding is_inside
  inside-empty e = rw (le-ltb 0 size (omega arith))

  module _ (filled : size ≡ 0 → ⊥) where
    pub outside-headers : offset < h → true ≡ not (is_inside h n offset size)
    unfolding is_inside
    outside-headers l = rw (lt-ltb 0 size (omega arith), lt-leb h offset l)

    pub outside-size : h ≤ offset → n < size → true ≡ not (is_inside h n offset size)
    unfolding is_inside
    outside-size l u = rw (lt-ltb 0 size (omega arith), le-leb h offset l, lt-leb (offset + size) n (omega arith))

    pub outside_end : h ≤ offset → size ≤ n → ltb (n - size) offset ≡ not (is_inside h n offset size)
    unfolding is_inside
    outside_end l u = rw (lt-ltb 0 size (omega arith), le-leb h offset l) (ltb-not (n - size) offset (offset + size) n (λ v. omega arith) (λ v. omega arith))

module _ (a s b t : ℕ) where
  pub no_first : s ≡ 0 → false ≡ overlaps a s b t
  unfolding overlaps
  no_first e = rw (le-ltb 0 s (omega arith))

  pub no_second : t ≡ 0 → false ≡ overlaps a s b t
  unfolding overlaps
  no_second e = rw (le-ltb 0 t (omega arith), and-false)

  module _ (hs : s ≡ 0 → ⊥) (ht : t ≡ 0 → ⊥) where
    pub from_below : a < b → ltb (b - a) s ≡ overlaps a s b t
    unfolding overlaps
    from_below h =
        rw (lt-ltb 0 s (omega arith), lt-ltb 0 t (omega arith), lt-ltb a (b + t) (omega arith))
        (ltb_same (b - a) s b (a + s) (λ g. omega arith) (λ g. omega arith))

    pub from_above : b ≤ a → ltb (a - b) t ≡ overlaps a s b t
    unfolding overlaps
    from_above h =
        rw (lt-ltb 0 s (omega arith), lt-ltb 0 t (omega arith), lt-ltb b (a + s) (omega arith), and-true)
        (ltb_same (a - b) t a (b + t) (λ g. omega arith) (λ g. omega arith))

  apart : (0 < s → 0 < t → (a + s ≤ b) ⊎ (b + t ≤ a)) → overlaps a s b t ≡ false
  unfolding overlaps
  apart h = go (lt-or-le 0 s) (lt-or-le 0 t)
    where
      go : (0 < s) ⊎ (s ≤ 0) → (0 < t) ⊎ (t ≤ 0) → (ltb 0 s && (ltb 0 t && (ltb a (b + t) && ltb b (a + s)))) ≡ false
      go (inr u) m = rw (le-ltb 0 s u)
      go (inl u) (inr v) = rw (le-ltb 0 t v, and-false)
      go (inl u) (inl v) = ⊎_elim (λ w. rw (le-ltb b (a + s) w, and-false, and-false, and-false)) (λ w. rw (le-ltb a (b + t) w, and-false, and-false)) (h u v)

-- a set outside low..high shares no byte with one between them
module _ (a s low high : ℕ) where
  pub clear_empty : s ≡ 0 → Clear low high a s
  unfolding Clear
  clear_empty e b t w = apart a s b t (λ u v. absurd (omega arith))

  pub clear_below : a < low → leb s (low - a) ≡ true → Clear low high a s
  unfolding Clear
  clear_below l e b t w = apart a s b t (λ u v. inl (omega (arith, w.starts v, leb-true s (low - a) e)))

  pub clear_above : high ≤ a → ltb a largest ≡ true → Clear low high a s
  unfolding Clear
  clear_above l e b t w = apart a s b t (λ u v. inr (let h = ltb-true a largest e in omega (arith, w.ends v (omega arith))))

-- low and high hold the sets of the entries below i
pub record Lower (offsets sizes : List ℕ) (i low high : ℕ) : Type 0 where
  pub each : (j : ℕ) → j < i → Between low high (get_or offsets j 0) (get_or sizes j 0)

-- ---- a search for a refusal, step by step: what is left of it from k on is the whole

module _ (f : ℕ → Answer) (i n k : ℕ) (so : first f i (n - i) ≡ first f k (n - k)) where
  pub first_hit : (m p e : ℕ) → k < n → f k ≡ refused m p e → first f i (n - i) ≡ need (eqb k n) m p e
  first_hit m p e h q = so ∙ first_step f k n h ∙ rw (q, ne_eqb k n (λ z. omega arith))

  pub first_miss : k < n → f k ≡ accepted → first f i (n - i) ≡ first f (k + 1) (n - (k + 1))
  first_miss h q = so ∙ first_step f k n h ∙ rw q

  pub first-none : (m p e : ℕ) → n ≤ k → first f i (n - i) ≡ need (eqb n n) m p e
  unfolding first
  first-none m p e h = let q : n - k ≡ 0 = omega arith in so ∙ rw (q, eq-eqb n n refl)

-- the same for a search for a number that passes
module _ (t : ℕ → Bool) (n k : ℕ) (so : some t 0 n ≡ some t k (n - k)) where
  pub some_hit : k < n → t k ≡ true → some t 0 n ≡ true
  some_hit h q = so ∙ some_step t k n h ∙ rw q

  pub some_miss : k < n → t k ≡ false → some t 0 n ≡ some t (k + 1) (n - (k + 1))
  some_miss h q = so ∙ some_step t k n h ∙ rw q

  pub some-none : n ≤ k → some t 0 n ≡ false
  unfolding some
  some-none h = let q : n - k ≡ 0 = omega arith in so ∙ rw q

-- none of the n numbers from i on passes
pub some_false : (t : ℕ → Bool) (i n : ℕ) → ((k : ℕ) → i ≤ k → k < i + n → t k ≡ false) → some t i n ≡ false
unfolding some
some_false t i zero h = refl
some_false t i (suc n) h = rw (h i (omega arith) (omega arith), some_false t (suc i) n (λ k l u. h k (omega arith) (omega arith)))

-- ---- the rules over a directory that the arrays hold

module _ (ds : List Entry) (offsets sizes : List ℕ) (held : Held ds offsets sizes) where
  pub same12 : (h n i : ℕ) → i < length ds → rule12_at ds h n i ≡ rule12_by offsets sizes h n i
  unfolding rule12_at rule12_by set_inside is_inside
  same12 h n i l = rw (held.filled i l, held.starts i l, held.extents i l)

  shares_same : (i j : ℕ) → i < length ds → j < length ds → shares_at ds i j ≡ overlaps_at offsets sizes i j
  unfolding shares_at shares overlaps_at overlaps
  shares_same i j l m = rw (held.filled i l, held.filled j m, held.starts i l, held.extents i l, held.starts j m, held.extents j m)

  pub same13 : (i : ℕ) → i < length ds → rule13_at ds i ≡ rule13_by offsets sizes i
  unfolding rule13_at rule13_by
  same13 i l = rw (held.starts i l, some_same (shares_at ds i) (overlaps_at offsets sizes i) 0 i (λ j v u. shares_same i j l (omega arith)))

module _ (offsets sizes : List ℕ) (entries r : ℕ) where
  pub outside : (h n : ℕ) → r ≤ entries → first (rule12_by offsets sizes h n) 0 (entries - 0) ≡ need (eqb r entries) 12 (get_or offsets r 0) r → Outside offsets sizes entries h n r
  outside h n l e = record {
    within = l;
    answer = λ ds held q. first_same (rule12_at ds h n) (rule12_by offsets sizes h n) 0 entries (λ k v u. same12 ds offsets sizes held h n k (omega arith)) ∙ rw sub-zero at e;
  }

  pub overlapping : r ≤ entries → first (rule13_by offsets sizes) 0 (entries - 0) ≡ need (eqb r entries) 13 (get_or offsets r 0) r → Overlapping offsets sizes entries r
  overlapping l e = record {
    within = l;
    answer = λ ds held q. first_same (rule13_at ds) (rule13_by offsets sizes) 0 entries (λ k v u. same13 ds offsets sizes held k (omega arith)) ∙ rw sub-zero at e;
  }

-- ---- each rule at one entry, by its test

module _ (offsets sizes : List ℕ) where
  pub entry_outside : (h n i : ℕ) → not (is_inside h n (get_or offsets i 0) (get_or sizes i 0)) ≡ true → rule12_by offsets sizes h n i ≡ refused 12 (get_or offsets i 0) i
  unfolding rule12_by
  entry_outside h n i e = rw (not-true (is_inside h n (get_or offsets i 0) (get_or sizes i 0)) e)

  pub entry_inside : (h n i : ℕ) → not (is_inside h n (get_or offsets i 0) (get_or sizes i 0)) ≡ false → rule12_by offsets sizes h n i ≡ accepted
  unfolding rule12_by
  entry_inside h n i e = rw (not-false (is_inside h n (get_or offsets i 0) (get_or sizes i 0)) e)

  pub overlaps_lower : (i : ℕ) → some (overlaps_at offsets sizes i) 0 i ≡ true → rule13_by offsets sizes i ≡ refused 13 (get_or offsets i 0) i
  unfolding rule13_by
  overlaps_lower i e = rw e

  pub overlaps-none : (i : ℕ) → some (overlaps_at offsets sizes i) 0 i ≡ false → rule13_by offsets sizes i ≡ accepted
  unfolding rule13_by
  overlaps-none i e = rw e

  -- where low and high hold all lower sets, a set that is clear of them shares no byte with a lower one; wider bounds hold it too
  module _ (i low high : ℕ) (lower : Lower offsets sizes i low high) where
    pub none-shares : Clear low high (get_or offsets i 0) (get_or sizes i 0) → some (overlaps_at offsets sizes i) 0 i ≡ false
    unfolding Clear overlaps_at
    none-shares h = some_false (overlaps_at offsets sizes i) 0 i (λ j l u. h _ _ (lower.each j (omega arith)))

    pub one_more : (l h : ℕ) → (l ≤ low) × (0 < get_or sizes i 0 → l ≤ get_or offsets i 0) → (high ≤ h) × (0 < get_or sizes i 0 → h < largest → get_or offsets i 0 + get_or sizes i 0 ≤ h)
        → Lower offsets sizes (i + 1) l h
    one_more l h m n = record {
      each =
          below_more _ i (λ j u. let w = lower.each j u in record { starts = λ v. omega (arith, w.starts v, m.0); ends = λ v x. omega (arith, w.ends v (omega (arith, n.0)), n.0) })
          (record { starts = m.1; ends = n.1 });
    }
