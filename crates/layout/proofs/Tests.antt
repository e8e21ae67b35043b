-- Each test of specs/ against the statement that document 01 makes (specs/Faults): it passes exactly where the statement holds.
-- Assumes nothing.
use Prim.Native.Nat.{ℕ, zero, suc, ◌+◌, ◌-◌, ◌≤◌, ◌<◌, max}
use Prim.Native.String.{String}
use mathlib.Core.Bool.{Bool, true, false, cond, ◌&&◌, ◌||◌}
use mathlib.Core.Logic.Iff
use mathlib.Core.Logic.{◌↔◌, ◌⊎◌, inl, inr, ⊎_elim}
use mathlib.Core.List.{List, [], ◌∷◌, ◌++◌, map}
use mathlib.Core.Path.{◌≡◌, refl, sym, ap, ◌∙◌}
use native.Mathlib.Omega.{arith}
use native.Mathlib.Nat.{zero-add}
use lib.Dec.{T, leb, ltb, eqb, ltb→lt, lt→ltb}
use lib.IntN.{pos, neg_ℤ}
use lib.ListN.{length, get_or, replicate}
use lib.Signed.{lt_z}
use Rattle.layout.specs.Bytes.{bytes, within, member}
use Rattle.layout.specs.Text.{Class, exactly, plain, sign, digit, among, fits, Number, whole}
use Rattle.layout.specs.Answer.{◌⇒◌}
use Rattle.layout.specs.Search.{Some, count, find, join}
use Rattle.layout.specs.Entries.{Entry, at, is_data, is_reference, called, non_empty, start, extent, holds, shares, kind_of, is_variable, is_states, is_fixed, all_zero, in_range, set_fits, numbers_fit}
use Rattle.layout.specs.States.{State, state_fits, attached, state_count, state_lengths}
use Rattle.layout.specs.Records.{variable_lengths}
use Rattle.layout.specs.Faults.{Fits, IsData, Called, NonEmpty, Byte, OfKind, Variable, Fixed, NumbersFit, HowMany, IsStates, StateFits, Attached, RecordLengths}
use Rattle.layout.proofs.Laws.{lt-or-le, either_iff, and_T, imp-T, or-T, not-T', leb-T, eqb-T, le_z_T, lt_z_T, eq_z-T, find_at, find-before, find_bounds, count_none, count-found}

ruleset tests = (and_T, imp-T, not-T', leb-T, eqb-T, eq_z-T, le_z_T, lt_z_T)

-- a test that does not pass is false, and one that passes true
pub is_false : (t : Bool) → (T t → ⊥) → t ≡ false
is_false true h = absurd (h tt)
is_false false h = refl

pub is_true : (t : Bool) → T t → t ≡ true
is_true true h = refl
is_true false h = absurd h

-- ---- bytes

member-T : (x : ℕ) (ys : List ℕ) → T (member x ys) ↔ Some (λ y. x ≡ y) ys
member-T x [] = Iff.rfl
member-T x (y ∷ ys) = Iff.trans (or-T (eqb x y) (member x ys)) (either_iff (eqb-T x y) (member-T x ys))

pub fits-T : (k : Class) (x : ℕ) → T (fits k x) ↔ Fits k x
unfolding fits
fits-T (exactly y) x = eqb-T x y
fits-T plain x = simp tests Iff.rfl
fits-T sign x = Iff.trans (or-T (eqb x 43) (eqb x 45)) (either_iff (eqb-T x 43) (eqb-T x 45))
fits-T digit x = simp tests Iff.rfl
fits-T (among ys) x = member-T x ys

-- ---- sets

or-false : (t : Bool) → T (t || false) ↔ T t
or-false true = Iff.rfl
or-false false = Iff.rfl

pub data_T : (f : Entry) → T (is_data f) ↔ IsData f
unfolding is_data
data_T f =
    let t = f.type in
    Iff.trans (or-T (eqb t 77) (eqb t 65 || (eqb t 71 || false)))
    (either_iff (eqb-T t 77) (Iff.trans (or-T (eqb t 65) (eqb t 71 || false)) (either_iff (eqb-T t 65) (Iff.trans (or-false (eqb t 71)) (eqb-T t 71)))))

pub non_empty-T : (f : Entry) → T (non_empty f) ↔ NonEmpty f
unfolding non_empty
non_empty-T f = simp (tests, data_T) Iff.rfl

pub holds-T : (p : ℕ) (f : Entry) → T (holds p f) ↔ Byte f p
unfolding holds
holds-T p f = simp (tests, non_empty-T) Iff.rfl

positive : (n : Number) → T (lt_z (pos 0) (whole n)) → 0 < n.magnitude
unfolding whole
positive n h = go n.minus n.magnitude h
  where
    go : (m : Bool) (k : ℕ) → T (lt_z (pos 0) (cond m (neg_ℤ (pos k)) (pos k))) → 0 < k
    go true zero h = ltb→lt 0 0 h
    go true (suc k) h = omega arith
    go false k h = ltb→lt 0 k h

pub non_empty-extent : (f : Entry) → NonEmpty f → 0 < extent f
unfolding extent
non_empty-extent f h = positive f.size h.1.lt

pub shares-T : (f g : Entry) → T (shares f g) ↔ ((p : ℕ) × (Byte f p × Byte g p))
unfolding shares
shares-T f g = simp (tests, non_empty-T) (to, λ h. (h.1.0.0, (h.1.1.0, (omega (arith, h.1.0.1, h.1.1.1), omega (arith, h.1.0.1, h.1.1.1)))))
  where
    to : NonEmpty f × (NonEmpty g × ((start f < start g + extent g) × (start g < start f + extent f))) → (p : ℕ) × (Byte f p × Byte g p)
    to h =
        let x = non_empty-extent f h.0 in
        let y = non_empty-extent g h.1.0 in
        (max (start f) (start g), ((h.0, (omega arith, omega arith)), (h.1.0, (omega arith, omega arith))))

-- ---- names

nil≢cons : {x : ℕ} {xs : List ℕ} → [] ≡ x ∷ xs → ⊥
nil≢cons e = let z : ◌≡◌ {A = ℕ} 0 1 = cc in omega arith

called_is : (xs ys : List ℕ) → T (called xs ys) ↔ ((n : ℕ) × (xs ≡ ys ++ replicate n 32))
unfolding called
called_is [] [] = (λ h. (0, refl), λ h. tt)
called_is [] (y ∷ ys) = (λ h. absurd h, λ h. nil≢cons h.1)
called_is (x ∷ xs) [] = Iff.trans (and_T (eqb x 32) (called xs [])) (to (called_is xs []), λ h. from (called_is xs []) h.0 h.1)
  where
    to : T (called xs []) ↔ ((n : ℕ) × (xs ≡ replicate n 32)) → T (eqb x 32) × T (called xs []) → (n : ℕ) × (x ∷ xs ≡ replicate n 32)
    to below h = let e = (eqb-T x 32).0 h.0 in let s = below.0 h.1 in (suc s.0, rw (e, s.1))

    from : T (called xs []) ↔ ((n : ℕ) × (xs ≡ replicate n 32)) → (n : ℕ) → x ∷ xs ≡ replicate n 32 → T (eqb x 32) × T (called xs [])
    from below zero e = absurd (nil≢cons (sym e))
    from below (suc n) e = ((eqb-T x 32).1 (cc), below.1 (n, cc))
called_is (x ∷ xs) (y ∷ ys) = Iff.trans (and_T (eqb x y) (called xs ys)) (to (called_is xs ys), from (called_is xs ys))
  where
    to : T (called xs ys) ↔ ((n : ℕ) × (xs ≡ ys ++ replicate n 32)) → T (eqb x y) × T (called xs ys) → (n : ℕ) × (x ∷ xs ≡ y ∷ (ys ++ replicate n 32))
    to below h = let e = (eqb-T x y).0 h.0 in let s = below.0 h.1 in (s.0, rw (e, s.1))

    from : T (called xs ys) ↔ ((n : ℕ) × (xs ≡ ys ++ replicate n 32)) → (n : ℕ) × (x ∷ xs ≡ y ∷ (ys ++ replicate n 32)) → T (eqb x y) × T (called xs ys)
    from below h = let e = h.1 in ((eqb-T x y).1 (cc), below.1 (h.0, cc))

called-T : (name : List ℕ) (text : String) → T (called name (bytes text)) ↔ Called name text
called-T name text = called_is name (bytes text)

-- ---- kinds of variable sets: the four names begin with letters of their own

module _ (f : Entry) where
  letter : (text : String) → Called f.name text → (n : ℕ) × (get_or f.name 0 0 ≡ get_or (bytes text ++ replicate n 32) 0 0)
  letter text c = (c.0, ap (λ (l : List ℕ). get_or l 0 0) c.1)

  other_letter : (text : String) (x : ℕ) → get_or f.name 0 0 ≡ x → ((n : ℕ) → get_or (bytes text ++ replicate n 32) 0 0 ≡ x → ⊥) → called f.name (bytes text) ≡ false
  other_letter text x e h = is_false (called f.name (bytes text)) (λ t. let c = letter text ((called-T f.name text).0 t) in h c.0 (sym c.1 ∙ e))

  this_name : (text : String) → Called f.name text → called f.name (bytes text) ≡ true
  this_name text c = is_true (called f.name (bytes text)) ((called-T f.name text).1 c)

  pub of-kind : (k : ℕ) → OfKind f k → kind_of f ≡ k
  unfolding kind_of
  of-kind k (inl c) = rw (this_name "NADIR" c.0) (sym c.1)
  of-kind k (inr (inl c)) =
      let l : get_or f.name 0 0 ≡ 76 = (letter "LIMB" c.0).1 in
      rw (other_letter "NADIR" 76 l (λ n e. omega arith), this_name "LIMB" c.0) (sym c.1)
  of-kind k (inr (inr (inl c))) =
      let l : get_or f.name 0 0 ≡ 79 = (letter "OCCULTATION" c.0).1 in
      rw (other_letter "NADIR" 79 l (λ n e. omega arith), other_letter "LIMB" 79 l (λ n e. omega arith), this_name "OCCULTATION" c.0) (sym c.1)
  of-kind k (inr (inr (inr c))) =
      let l : get_or f.name 0 0 ≡ 77 = (letter "MONITORING" c.0).1 in
      rw (other_letter "NADIR" 77 l (λ n e. omega arith), other_letter "LIMB" 77 l (λ n e. omega arith), other_letter "OCCULTATION" 77 l (λ n e. omega arith), this_name "MONITORING" c.0) (sym c.1)

  one_name : (text : String) → called f.name (bytes text) ≡ true → Called f.name text
  one_name text e = (called-T f.name text).0 (rw e tt)

  pub kind-is : 0 < kind_of f → OfKind f (kind_of f)
  unfolding kind_of
  kind-is = go (called f.name (bytes "NADIR")) (called f.name (bytes "LIMB")) (called f.name (bytes "OCCULTATION")) (called f.name (bytes "MONITORING")) refl refl refl refl
    where
      go : (t u v w : Bool) → called f.name (bytes "NADIR") ≡ t → called f.name (bytes "LIMB") ≡ u → called f.name (bytes "OCCULTATION") ≡ v → called f.name (bytes "MONITORING") ≡ w
          → 0 < cond t 1 (cond u 2 (cond v 3 (cond w 4 0))) → OfKind f (cond t 1 (cond u 2 (cond v 3 (cond w 4 0))))
      go true u v w a b c d h = inl (one_name "NADIR" a, refl)
      go false true v w a b c d h = inr (inl (one_name "LIMB" b, refl))
      go false false true w a b c d h = inr (inr (inl (one_name "OCCULTATION" c, refl)))
      go false false false true a b c d h = inr (inr (inr (one_name "MONITORING" d, refl)))
      go false false false false a b c d h = absurd (omega arith)

  kind_range : (k : ℕ) → OfKind f k → (0 < k) × (k ≤ 4)
  kind_range k (inl c) = (omega (arith, c.1), omega (arith, c.1))
  kind_range k (inr (inl c)) = (omega (arith, c.1), omega (arith, c.1))
  kind_range k (inr (inr (inl c))) = (omega (arith, c.1), omega (arith, c.1))
  kind_range k (inr (inr (inr c))) = (omega (arith, c.1), omega (arith, c.1))

  some-kind : T (ltb 0 (kind_of f)) ↔ ((k : ℕ) × OfKind f k)
  some-kind = (λ t. (kind_of f, kind-is (ltb→lt 0 (kind_of f) t)), λ h. lt→ltb 0 (kind_of f) (omega (arith, of-kind h.0 h.1, (kind_range h.0 h.1).0)))

  pub variable_T : T (is_variable f) ↔ Variable f
  unfolding is_variable
  variable_T = simp (some-kind, tests) Iff.rfl

  -- a variable set has a kind, 1 to 4
  pub variable_kind : Variable f → (0 < kind_of f) × (kind_of f ≤ 4)
  variable_kind v = let k = v.1.1.1 in let r = kind_range k.0 k.1 in (omega (arith, of-kind k.0 k.1, r.0), omega (arith, of-kind k.0 k.1, r.1))

-- ---- numbers

fixed_T : (f : Entry) → T (is_fixed f) ↔ Fixed f
unfolding is_fixed
fixed_T f = simp tests Iff.rfl

fills_T : (f : Entry) → T (is_fixed f || is_variable f) ↔ (Fixed f ⊎ Variable f)
fills_T f = Iff.trans (or-T (is_fixed f) (is_variable f)) (either_iff (fixed_T f) (variable_T f))

pub numbers-T : (f : Entry) → T (numbers_fit f) ↔ NumbersFit f
unfolding numbers_fit is_reference all_zero in_range set_fits
numbers-T f = simp (fills_T, data_T, tests) Iff.rfl

-- ---- states

pub state-T : (s : State) → T (state_fits s) ↔ StateFits s
unfolding state_fits
state-T s = Iff.trans (or-T (eqb s.flag 1) (eqb s.flag 0 && (within 1 4 s.kind && (leb 1 s.count ⇒ leb 1 s.record_length)))) (either_iff (simp tests Iff.rfl) (simp tests Iff.rfl))

pub states_T : (f : Entry) → T (is_states f) ↔ IsStates f
unfolding is_states
states_T f = Iff.trans (and_T (eqb f.type 65) (called f.name (bytes "STATES"))) (λ h. ((eqb-T f.type 65).0 h.0, (called-T f.name "STATES").0 h.1), λ h. ((eqb-T f.type 65).1 h.0, (called-T f.name "STATES").1 h.1))

-- flag 0 means attached, and flag 1 does not
pub attached-T : (k : ℕ) (s : State) → T (attached k s) ↔ Attached k s
unfolding attached
attached-T k s = simp tests Iff.rfl

-- the records that the states give, and no others
pub lengths-are : (k : ℕ) (ss : List State) → RecordLengths k ss (variable_lengths ss k)
unfolding variable_lengths state_lengths state_count
lengths-are k [] = refl
lengths-are k (s ∷ ss) = go (attached k s) refl (lengths-are k ss)
  where
    go : (t : Bool) → attached k s ≡ t → RecordLengths k ss (join (map (state_lengths k) ss)) → RecordLengths k (s ∷ ss) (replicate (cond t s.count 0) s.record_length ++ join (map (state_lengths k) ss))
    go true e below = inl ((attached-T k s).0 (rw e tt), (join (map (state_lengths k) ss), (refl, below)))
    go false e below = inr (λ a. absurd (rw e at ((attached-T k s).1 a)), below)

pub one-lengths : (k : ℕ) (ss : List State) (ns : List ℕ) → RecordLengths k ss ns → ns ≡ variable_lengths ss k
unfolding variable_lengths state_lengths state_count
one-lengths k [] ns h = h
one-lengths k (s ∷ ss) ns (inl h) = h.1.1.0 ∙ rw (is_true (attached k s) ((attached-T k s).1 h.0), one-lengths k ss h.1.0 h.1.1.1)
one-lengths k (s ∷ ss) ns (inr h) = one-lengths k ss ns h.1 ∙ rw (is_false (attached k s) (λ t. h.0 ((attached-T k s).0 t)))

-- ---- how many are so, and exactly one

count_shift : (t : ℕ → Bool) (i n : ℕ) → count t (suc i) n ≡ count (λ j. t (suc j)) i n
unfolding count
count_shift t i zero = refl
count_shift t i (suc n) = rw (count_shift t (suc i) n)

module _ (P : Entry → Type 0) (t : Entry → Bool) (same : (f : Entry) → T (t f) ↔ P f) where
  pub number_is : (ds : List Entry) → HowMany P ds (count (λ i. t (at ds i)) 0 (length ds))
  unfolding count at
  number_is [] = refl
  number_is (f ∷ ds) = rw (count_shift (λ i. t (at (f ∷ ds) i)) 0 (length ds)) (go (t f) refl (number_is ds))
    where
      go : (u : Bool) → t f ≡ u → HowMany P ds (count (λ i. t (at ds i)) 0 (length ds)) → HowMany P (f ∷ ds) (cond u 1 0 + count (λ i. t (at ds i)) 0 (length ds))
      go true e below = inl ((same f).0 (rw e tt), (count (λ i. t (at ds i)) 0 (length ds), (omega arith, below)))
      go false e below = inr (λ p. absurd (rw e at ((same f).1 p)), rw zero-add below)

pub one_number : (P : Entry → Type 0) (ds : List Entry) (m n : ℕ) → HowMany P ds m → HowMany P ds n → m ≡ n
one_number P [] m n h k = h ∙ sym k
one_number P (f ∷ ds) m n (inl h) (inl k) = h.1.1.0 ∙ ap suc (one_number P ds h.1.0 k.1.0 h.1.1.1 k.1.1.1) ∙ sym k.1.1.0
one_number P (f ∷ ds) m n (inl h) (inr k) = absurd (k.0 h.0)
one_number P (f ∷ ds) m n (inr h) (inl k) = absurd (h.0 k.0)
one_number P (f ∷ ds) m n (inr h) (inr k) = one_number P ds m n h.1 k.1

module _ (t : ℕ → Bool) where
  none-counted : (i n : ℕ) → count t i n ≡ 0 → (k : ℕ) → i ≤ k → k < i + n → T (t k) → ⊥
  unfolding count
  none-counted i zero h k l u p = omega arith
  none-counted i (suc n) h k l u p = go (t i) refl h (none-counted (suc i) n)
    where
      go : (v : Bool) → t i ≡ v → cond v 1 0 + count t (suc i) n ≡ 0 → (count t (suc i) n ≡ 0 → (k : ℕ) → suc i ≤ k → k < suc i + n → T (t k) → ⊥) → ⊥
      go true e h below = omega arith
      go false e h below = ⊎_elim (λ m. below (omega arith) k m (omega arith) p) (λ m. let q : k ≡ i = omega arith in absurd (rw (q, e) at p)) (lt-or-le i k)

  counts-none : (i n : ℕ) → ((k : ℕ) → i ≤ k → k < i + n → T (t k) → ⊥) → count t i n ≡ 0
  unfolding count
  counts-none i zero h = refl
  counts-none i (suc n) h = rw (is_false (t i) (h i (omega arith) (omega arith)), counts-none (suc i) n (λ k l u. h k (omega arith) (omega arith)))

  -- exactly one of the first n numbers passes: the number i
  abbrev Only : ℕ → ℕ → Type 0
  Only n i = (i < n) × (T (t i) × ((j : ℕ) → j < n → T (t j) → j ≡ i))

  pub counted_once : (n : ℕ) → count t 0 n ≡ 1 → Only n (find t 0 n)
  counted_once n h = (here, (find_at t 0 n (omega (arith, here)), λ j l p. go j l p (lt-or-le j (find t 0 n)) (lt-or-le (find t 0 n) j)))
    where
      here : find t 0 n < n
      here = ⊎_elim (λ l. l) (λ l. let e : find t 0 n ≡ 0 + n = omega (arith, (find_bounds t 0 n).1) in absurd (omega (arith, count_none t 0 n e))) (lt-or-le (find t 0 n) n)

      behind : count t (suc (find t 0 n)) (0 + n - suc (find t 0 n)) ≡ 0
      behind = omega (arith, count-found t 0 n (omega (arith, here)))

      go : (j : ℕ) → j < n → T (t j) → (j < find t 0 n) ⊎ (find t 0 n ≤ j) → (find t 0 n < j) ⊎ (j ≤ find t 0 n) → j ≡ find t 0 n
      go j l p (inl m) u = absurd (rw (find-before t 0 n j (omega arith) m) at p)
      go j l p (inr m) (inl u) = absurd (none-counted (suc (find t 0 n)) (0 + n - suc (find t 0 n)) behind j u (omega (arith, here)) p)
      go j l p (inr m) (inr u) = omega arith

  pub once_found : (n i : ℕ) → Only n i → find t 0 n ≡ i
  once_found n i h = go (lt-or-le i (find t 0 n))
    where
      go : (i < find t 0 n) ⊎ (find t 0 n ≤ i) → find t 0 n ≡ i
      go (inl l) = absurd (rw (find-before t 0 n i (omega arith) l) at h.1.0)
      go (inr l) = h.1.1 (find t 0 n) (omega (arith, h.0)) (find_at t 0 n (omega (arith, h.0)))

  pub once_counted : (n i : ℕ) → Only n i → count t 0 n ≡ 1
  once_counted n i h =
      let e = once_found n i h in
      count-found t 0 n (omega (arith, h.0)) ∙ ap suc (counts-none (suc (find t 0 n)) (0 + n - suc (find t 0 n)) (λ k l u p. omega (arith, h.1.1 k (omega (arith, h.0)) p)))
