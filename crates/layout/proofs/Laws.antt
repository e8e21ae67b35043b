-- The laws of tests, answers and searches: what it means that nothing is found, what it means that something is, and the steps of a loop.
-- Assumes nothing.
use Prim.Native.Nat.{ℕ, zero, suc, ◌+◌, ◌-◌, ◌≤◌, ◌<◌}
use mathlib.Core.Bool.{Bool, true, false, cond, ◌&&◌, ◌||◌, not}
use mathlib.Core.Logic.{◌↔◌, ◌⊎◌, inl, inr, ⊎_elim}
use mathlib.Core.List.{List, [], ◌∷◌, ◌++◌, map, map-append, append-nil, append_assoc}
use mathlib.Core.Path.{◌≡◌, refl, sym, ap, ◌∙◌, subst}
use native.Mathlib.Omega.{arith}
use native.Mathlib.Nat.{add-zero, zero-add, add-suc, suc-add, add_assoc, le_of_suc-le-suc, not-suc-le-zero}
use native.Mathlib.Numerals.{add-one}
use lib.Dec.{T, leb, ltb, eqb, leb→le, le→leb, eqb→eq, eqb_refl, T_not, not_T}
use lib.IntN.{ℤ, pos, negsuc}
use lib.Signed.{le_z, lt_z, ◌≤ℤ◌, ◌<ℤ◌}
use lib.ListN.{length, take, drop, get_or}
use borrow.Author.Tests.{leb-true, leb-false, ltb-true, ltb-false, le-leb, lt-leb, lt-ltb, le-ltb, eq-eqb, ne_eqb}
use Rattle.layout.specs.Text.{Class, fits}
use Rattle.layout.specs.Answer.{Answer, accepted, refused, need, where', ◌or_else◌}
use Rattle.layout.specs.Search.{first, some, count, find, laid_out, upto, join}
use Rattle.layout.specs.Entries.{eq_z}

pub lt-or-le : (a b : ℕ) → (a < b) ⊎ (b ≤ a)
lt-or-le a b = go (leb (suc a) b) refl
  where
    go : (t : Bool) → leb (suc a) b ≡ t → (a < b) ⊎ (b ≤ a)
    go true e = inl (leb-true (suc a) b e)
    go false e = inr (let h : b < suc a = leb-false (suc a) b e in omega arith)

pub not-not : (t : Bool) → not (not t) ≡ t
not-not true = refl
not-not false = refl

-- at most is not above
pub leb-not : (a b : ℕ) → leb a b ≡ not (ltb b a)
leb-not a b = go (ltb b a) refl
  where
    go : (t : Bool) → ltb b a ≡ t → leb a b ≡ not t
    go true e = lt-leb a b (ltb-true b a e)
    go false e = le-leb a b (ltb-false b a e)

-- two comparisons of which one holds where the other does
pub ltb_same : (a b c d : ℕ) → (a < b → c < d) → (b ≤ a → d ≤ c) → ltb a b ≡ ltb c d
ltb_same a b c d t f = go (ltb a b) refl
  where
    go : (u : Bool) → ltb a b ≡ u → u ≡ ltb c d
    go true e = sym (lt-ltb c d (t (ltb-true a b e)))
    go false e = sym (le-ltb c d (f (ltb-false a b e)))

-- ---- tests as statements

pub and_T : (a b : Bool) → T (a && b) ↔ (T a × T b)
and_T true b = (λ h. (tt, h), λ h. h.1)
and_T false b = (λ h. absurd h, λ h. h.0)

pub imp-T : (a b : Bool) → T (not a || b) ↔ (T a → T b)
imp-T true b = (λ h t. h, λ h. h tt)
imp-T false b = (λ h t. absurd t, λ h. tt)

pub not-T' : (a : Bool) → T (not a) ↔ (T a → ⊥)
not-T' a = (T_not a, not_T a)

pub leb-T : (m n : ℕ) → T (leb m n) ↔ (m ≤ n)
leb-T m n = (leb→le m n, le→leb m n)

pub eqb-T : (m n : ℕ) → T (eqb m n) ↔ (m ≡ n)
eqb-T m n = (eqb→eq m n, λ e. subst (λ (k : ℕ). T (eqb m k)) e (eqb_refl m))

pub under : (m n : ℕ) → (T (leb m n) → ⊥) ↔ (n < m)
under m n = (λ h. ⊎_elim (λ l. l) (λ l. absurd (h (le→leb m n l))) (lt-or-le n m), λ l h. omega (arith, leb→le m n h))

pub or-T : (a b : Bool) → T (a || b) ↔ (T a ⊎ T b)
or-T true b = (λ h. inl tt, λ h. tt)
or-T false b = (λ h. inr h, λ h. ⊎_elim (λ x. absurd x) (λ x. x) h)

pub not_not_T : (a : Bool) → (T (not a) → ⊥) ↔ T a
not_not_T true = (λ h. tt, λ h k. k)
not_not_T false = (λ h. absurd (h tt), λ h. absurd h)

pub either_iff : {A B C D : Type 0} → A ↔ B → C ↔ D → (A ⊎ C) ↔ (B ⊎ D)
either_iff f g = (⊎_elim (λ a. inl (f.0 a)) (λ c. inr (g.0 c)), ⊎_elim (λ b. inl (f.1 b)) (λ d. inr (g.1 d)))

pub not_iff : {A B : Type 0} → A ↔ B → (A → ⊥) ↔ (B → ⊥)
not_iff f = (λ h b. h (f.1 b), λ h a. h (f.0 a))

-- a test that passes where another does not
pub not-imp-T : (a b : Bool) → (T (not a || b) → ⊥) ↔ (T a × (T b → ⊥))
not-imp-T true b = (λ h. (tt, h), λ h. h.1)
not-imp-T false b = (λ h. absurd (h tt), λ h t. h.0)

pub lt_z_T : (x y : ℤ) → T (lt_z x y) ↔ (x <ℤ y)
lt_z_T x y = (λ h. record { lt = h }, λ h. h.lt)

pub le_z_T : (x y : ℤ) → T (le_z x y) ↔ (x ≤ℤ y)
le_z_T x y = (λ h. record { le = h }, λ h. h.le)

pub eq_z-T : (x y : ℤ) → T (eq_z x y) ↔ (x ≡ y)
eq_z-T x y = (to x y, λ e. subst (λ (z : ℤ). T (eq_z x z)) e (same x))
  where
    same : (z : ℤ) → T (eq_z z z)
    same (pos n) = eqb_refl n
    same (negsuc n) = eqb_refl n

    to : (x y : ℤ) → T (eq_z x y) → x ≡ y
    to (pos m) (pos n) h = ap pos (eqb→eq m n h)
    to (pos m) (negsuc n) h = absurd h
    to (negsuc m) (pos n) h = absurd h
    to (negsuc m) (negsuc n) h = ap negsuc (eqb→eq m n h)

-- ---- answers

pub accepted≢refused : {n p e : ℕ} → accepted ≡ refused n p e → ⊥
accepted≢refused h = let z : ◌≡◌ {A = ℕ} 0 1 = cc in omega arith

pub need-accepts : (t : Bool) (n p e : ℕ) → (need t n p e ≡ accepted) ↔ T t
need-accepts true n p e = (λ h. tt, λ t. refl)
need-accepts false n p e = (λ h. accepted≢refused (sym h), λ t. absurd t)

pub or_else_accepts : (a b : Answer) → (a or_else b ≡ accepted) ↔ ((a ≡ accepted) × (b ≡ accepted))
or_else_accepts accepted b = (λ h. (refl, h), λ h. h.1)
or_else_accepts (refused n p e) b = (λ h. absurd (accepted≢refused (sym h)), λ h. h.0)

pub where_accepts : (t : Bool) (a : Answer) → (where' t a ≡ accepted) ↔ (T t → a ≡ accepted)
where_accepts true a = (λ h t. h, λ h. h tt)
where_accepts false a = (λ h t. absurd t, λ h. refl)

pub or_else_assoc : (x y z : Answer) → (x or_else y) or_else z ≡ x or_else (y or_else z)
or_else_assoc accepted y z = refl
or_else_assoc (refused n p e) y z = refl

pub or_else_accepted : (x : Answer) → x or_else accepted ≡ x
or_else_accepted accepted = refl
or_else_accepted (refused n p e) = refl

-- ---- the search for a refusal

module _ (f : ℕ → Answer) where
  -- nothing is found: exactly when each number finds nothing
  pub first-accepts : (i n : ℕ) → (first f i n ≡ accepted) ↔ ((k : ℕ) → i ≤ k → k < i + n → f k ≡ accepted)
  unfolding first
  first-accepts i zero = (λ h k l u. absurd (omega arith), λ h. refl)
  first-accepts i (suc n) = (to (first-accepts (suc i) n).0, from (first-accepts (suc i) n).1)
    where
      to : (first f (suc i) n ≡ accepted → (k : ℕ) → suc i ≤ k → k < suc i + n → f k ≡ accepted) → (f i or_else first f (suc i) n) ≡ accepted → (k : ℕ) → i ≤ k → k < i + suc n → f k ≡ accepted
      to below h k l u = go (lt-or-le i k)
        where
          s : (f i ≡ accepted) × (first f (suc i) n ≡ accepted)
          s = (or_else_accepts (f i) (first f (suc i) n)).0 h

          go : (i < k) ⊎ (k ≤ i) → f k ≡ accepted
          go (inl m) = below s.1 k m (omega arith)
          go (inr m) = let e : k ≡ i = omega arith in rw e s.0

      from : (((k : ℕ) → suc i ≤ k → k < suc i + n → f k ≡ accepted) → first f (suc i) n ≡ accepted) → ((k : ℕ) → i ≤ k → k < i + suc n → f k ≡ accepted) → (f i or_else first f (suc i) n) ≡ accepted
      from below h = (or_else_accepts (f i) (first f (suc i) n)).1 (h i (omega arith) (omega arith), below (λ k l u. h k (omega arith) (omega arith)))

  -- the same from 0 on
  pub first-accepts_0 : (n : ℕ) → (first f 0 n ≡ accepted) ↔ ((k : ℕ) → k < n → f k ≡ accepted)
  first-accepts_0 n = (λ h k l. (first-accepts 0 n).0 h k (omega arith) (omega arith), λ h. (first-accepts 0 n).1 (λ k l u. h k (omega arith)))

  -- something is found: at some number, and nothing before it
  first_refuses : (i n m p e : ℕ) → first f i n ≡ refused m p e → (k : ℕ) × (i ≤ k) × (k < i + n) × (f k ≡ refused m p e) × ((j : ℕ) → i ≤ j → j < k → f j ≡ accepted)
  unfolding first
  first_refuses i zero m p e h = absurd (accepted≢refused h)
  first_refuses i (suc n) m p e h = go (f i) refl h (first_refuses (suc i) n m p e)
    where
      go : (a : Answer) → f i ≡ a → (a or_else first f (suc i) n) ≡ refused m p e
          → (first f (suc i) n ≡ refused m p e → (k : ℕ) × (suc i ≤ k) × (k < suc i + n) × (f k ≡ refused m p e) × ((j : ℕ) → suc i ≤ j → j < k → f j ≡ accepted))
          → (k : ℕ) × (i ≤ k) × (k < i + suc n) × (f k ≡ refused m p e) × ((j : ℕ) → i ≤ j → j < k → f j ≡ accepted)
      go accepted g h below =
          let r = below h in
          (r.0, omega (arith, r.1), omega (arith, r.2), r.3, λ j l u. ⊎_elim (λ v. r.4 j v u) (λ v. let q : j ≡ i = omega arith in rw q g) (lt-or-le i j))
      go (refused n' p' e') g h below = (i, omega arith, omega arith, g ∙ h, λ j l u. absurd (omega arith))

  -- for loops: one step, and the end; and a run of numbers known to be good
  pub first_step : (i n : ℕ) → i < n → first f i (n - i) ≡ (f i or_else first f (i + 1) (n - (i + 1)))
  unfolding first
  first_step i n h = let q : n - i ≡ suc (n - suc i) = omega arith in rw (q, add-one i)

  first_skip' : (m i n : ℕ) → ((k : ℕ) → i ≤ k → k < i + m → f k ≡ accepted) → first f i (m + n) ≡ first f (i + m) n
  unfolding first
  first_skip' zero i n h = rw (zero-add n, add-zero i)
  first_skip' (suc m) i n h = rw (suc-add m n, h i (omega arith) (omega arith), add-suc i m, ← suc-add i m) (first_skip' m (suc i) n (λ k l u. h k (omega arith) (omega arith)))

  pub first_skip : (i j n : ℕ) → i ≤ j → j ≤ n → ((k : ℕ) → i ≤ k → k < j → f k ≡ accepted) → first f i (n - i) ≡ first f j (n - j)
  first_skip i j n l u h =
      let q : n - i ≡ (j - i) + (n - j) = omega arith in
      let r : i + (j - i) ≡ j = omega arith in
      rw q (first_skip' (j - i) i (n - j) (λ k v w. h k v (omega arith)) ∙ rw r)

-- ---- the search for a number that passes

module _ (t : ℕ → Bool) where
  some_at : (i n : ℕ) → T (some t i n) → (k : ℕ) × (i ≤ k) × (k < i + n) × T (t k)
  unfolding some
  some_at i zero h = absurd h
  some_at i (suc n) h = go (t i) refl h (some_at (suc i) n)
    where
      go : (u : Bool) → t i ≡ u → T (u || some t (suc i) n) → (T (some t (suc i) n) → (k : ℕ) × (suc i ≤ k) × (k < suc i + n) × T (t k)) → (k : ℕ) × (i ≤ k) × (k < i + suc n) × T (t k)
      go true e h below = (i, omega arith, omega arith, rw e tt)
      go false e h below = let r = below h in (r.0, omega (arith, r.1), omega (arith, r.2), r.3)

  at_some : (i n k : ℕ) → i ≤ k → k < i + n → T (t k) → T (some t i n)
  unfolding some
  at_some i zero k l u h = absurd (omega arith)
  at_some i (suc n) k l u h = go (lt-or-le i k) (t i) refl (λ v. at_some (suc i) n k v (omega arith) h)
    where
      go : (i < k) ⊎ (k ≤ i) → (v : Bool) → t i ≡ v → (suc i ≤ k → T (some t (suc i) n)) → T (v || some t (suc i) n)
      go m true e below = tt
      go (inl m) false e below = below m
      go (inr m) false e below = absurd (subst (λ (v : Bool). T v) e (subst (λ (j : ℕ). T (t j)) (omega arith) h))

  pub some_step : (i n : ℕ) → i < n → some t i (n - i) ≡ (t i || some t (i + 1) (n - (i + 1)))
  unfolding some
  some_step i n h = let q : n - i ≡ suc (n - suc i) = omega arith in rw (q, add-one i)

  pub some_end : (n : ℕ) → some t n (n - n) ≡ false
  unfolding some
  some_end n = let q : n - n ≡ 0 = omega arith in rw q

  pub some-T : (n : ℕ) → T (some t 0 n) ↔ ((k : ℕ) × (k < n) × T (t k))
  some-T n = (λ h. let r = some_at 0 n h in (r.0, omega (arith, r.2), r.3), λ h. at_some 0 n h.0 (omega arith) (omega (arith, h.1)) h.2)

-- ---- searches that agree at each number

pub first_same : (f g : ℕ → Answer) (i n : ℕ) → ((k : ℕ) → i ≤ k → k < i + n → f k ≡ g k) → first f i n ≡ first g i n
unfolding first
first_same f g i zero h = refl
first_same f g i (suc n) h = rw (h i (omega arith) (omega arith), first_same f g (suc i) n (λ k l u. h k (omega arith) (omega arith)))

pub some_same : (t u : ℕ → Bool) (i n : ℕ) → ((k : ℕ) → i ≤ k → k < i + n → t k ≡ u k) → some t i n ≡ some u i n
unfolding some
some_same t u i zero h = refl
some_same t u i (suc n) h = rw (h i (omega arith) (omega arith), some_same t u (suc i) n (λ k l v. h k (omega arith) (omega arith)))

pub count_same : (t u : ℕ → Bool) (i n : ℕ) → ((k : ℕ) → i ≤ k → k < i + n → t k ≡ u k) → count t i n ≡ count u i n
unfolding count
count_same t u i zero h = refl
count_same t u i (suc n) h = rw (h i (omega arith) (omega arith), count_same t u (suc i) n (λ k l v. h k (omega arith) (omega arith)))

pub find_same : (t u : ℕ → Bool) (i n : ℕ) → ((k : ℕ) → i ≤ k → k < i + n → t k ≡ u k) → find t i n ≡ find u i n
unfolding find
find_same t u i zero h = refl
find_same t u i (suc n) h = rw (h i (omega arith) (omega arith), find_same t u (suc i) n (λ k l v. h k (omega arith) (omega arith)))

-- ---- counting and finding

module _ (t : ℕ → Bool) where
  pub find_step : (i n : ℕ) → i < n → find t i (n - i) ≡ cond (t i) i (find t (i + 1) (n - (i + 1)))
  unfolding find
  find_step i n h = let q : n - i ≡ suc (n - suc i) = omega arith in rw (q, add-one i)

  pub find_end : (n : ℕ) → find t n (n - n) ≡ n
  unfolding find
  find_end n = let q : n - n ≡ 0 = omega arith in rw q

  -- a loop that looks for the first number that passes, at i, with nothing found from `from` on
  module _ (from n i : ℕ) (left : find t from (n - from) ≡ find t i (n - i)) where
    pub find_hit : i < n → t i ≡ true → i ≡ find t from (n - from)
    find_hit h e = sym (left ∙ find_step i n h ∙ rw e)

    pub find-next : i < n → t i ≡ false → find t from (n - from) ≡ find t (i + 1) (n - (i + 1))
    find-next h e = left ∙ find_step i n h ∙ rw e

    pub find_none : i ≤ n → n ≤ i → n ≡ find t from (n - from)
    find_none h l = let q : i ≡ n = omega arith in sym (left ∙ rw q (find_end n))

  pub find_bounds : (i n : ℕ) → (i ≤ find t i n) × (find t i n ≤ i + n)
  unfolding find
  find_bounds i zero = (omega arith, omega arith)
  find_bounds i (suc n) = go (t i) (find_bounds (suc i) n)
    where
      go : (u : Bool) → (suc i ≤ find t (suc i) n) × (find t (suc i) n ≤ suc i + n) → (i ≤ cond u i (find t (suc i) n)) × (cond u i (find t (suc i) n) ≤ i + suc n)
      go true h = (omega arith, omega arith)
      go false h = (omega (arith, h.0), omega (arith, h.1))

  -- nothing before the number found passes
  pub find-before : (i n k : ℕ) → i ≤ k → k < find t i n → t k ≡ false
  unfolding find
  find-before i zero k l u = absurd (omega arith)
  find-before i (suc n) k l u = go (t i) refl u (find-before (suc i) n k)
    where
      go : (v : Bool) → t i ≡ v → k < cond v i (find t (suc i) n) → (suc i ≤ k → k < find t (suc i) n → t k ≡ false) → t k ≡ false
      go true e u below = absurd (omega arith)
      go false e u below = ⊎_elim (λ m. below m u) (λ m. let q : k ≡ i = omega arith in rw q e) (lt-or-le i k)

  -- the number found passes
  pub find_at : (i n : ℕ) → find t i n < i + n → T (t (find t i n))
  unfolding find
  find_at i zero h = absurd (omega arith)
  find_at i (suc n) h = go (t i) refl h (find_at (suc i) n)
    where
      go : (v : Bool) → t i ≡ v → cond v i (find t (suc i) n) < i + suc n → (find t (suc i) n < suc i + n → T (t (find t (suc i) n))) → T (t (cond v i (find t (suc i) n)))
      go true e u below = rw e tt
      go false e u below = below (omega arith)

  -- the only number that passes is the one found
  pub find-only : (n i : ℕ) → i < n → T (t i) → ((j : ℕ) → j < n → T (t j) → j ≡ i) → find t 0 n ≡ i
  find-only n i l h only = go (lt-or-le i (find t 0 n))
    where
      go : (i < find t 0 n) ⊎ (find t 0 n ≤ i) → find t 0 n ≡ i
      go (inl u) = absurd (subst (λ (v : Bool). T v) (find-before 0 n i (omega arith) u) h)
      go (inr u) = only (find t 0 n) (omega arith) (find_at 0 n (omega arith))

-- ---- bytes against a layout

-- one layout after another
laid_out-append : (n e : ℕ) (ks js : List Class) (b : List ℕ) (p : ℕ) → length ks ≤ length b
    → laid_out n e p (ks ++ js) b ≡ (laid_out n e p ks b or_else laid_out n e (p + length ks) js (drop (length ks) b))
unfolding laid_out
laid_out-append n e [] js b p h = rw (add-zero p)
laid_out-append n e (k ∷ ks) js [] p h = absurd (not-suc-le-zero h)
laid_out-append n e (k ∷ ks) js (x ∷ b) p h =
    rw (laid_out-append n e ks js b (suc p) (le_of_suc-le-suc h), or_else_assoc, add-suc p (length ks), suc-add p (length ks))

-- only as many bytes count as the layout has
pub laid_out-take : (n e : ℕ) (ks : List Class) (b : List ℕ) (p m : ℕ) → length ks ≤ m → laid_out n e p ks (take m b) ≡ laid_out n e p ks b
unfolding laid_out
laid_out-take n e [] b p m h = refl
laid_out-take n e (k ∷ ks) b p zero h = absurd (not-suc-le-zero h)
laid_out-take n e (k ∷ ks) [] p (suc m) h = refl
laid_out-take n e (k ∷ ks) (x ∷ b) p (suc m) h = rw (laid_out-take n e ks b (suc p) m (le_of_suc-le-suc h))

-- bytes that are as laid out are each of their class
pub laid_out-fits : (d : Class) (n e : ℕ) (ks : List Class) (b : List ℕ) (p : ℕ) → laid_out n e p ks b ≡ accepted
    → (length ks ≤ length b) × ((k : ℕ) → k < length ks → T (fits (get_or ks k d) (get_or b k 0)))
unfolding laid_out
laid_out-fits d n e [] b p h = (omega arith, λ k l. absurd (not-suc-le-zero l))
laid_out-fits d n e (c ∷ ks) [] p h = absurd (accepted≢refused (sym h))
laid_out-fits d n e (c ∷ ks) (x ∷ b) p h =
    let both = (or_else_accepts (need (fits c x) n p e) (laid_out n e (suc p) ks b)).0 h in
    go ((need-accepts (fits c x) n p e).0 both.0) (laid_out-fits d n e ks b (suc p) both.1)
  where
    go : T (fits c x) → (length ks ≤ length b) × ((k : ℕ) → k < length ks → T (fits (get_or ks k d) (get_or b k 0)))
        → (length (c ∷ ks) ≤ length (x ∷ b)) × ((k : ℕ) → k < length (c ∷ ks) → T (fits (get_or (c ∷ ks) k d) (get_or (x ∷ b) k 0)))
    go here below = (omega (arith, below.0), at)
      where
        at : (k : ℕ) → k < length (c ∷ ks) → T (fits (get_or (c ∷ ks) k d) (get_or (x ∷ b) k 0))
        at zero l = here
        at (suc k) l = below.1 k (le_of_suc-le-suc l)

-- ---- counting by finding

module _ (t : ℕ → Bool) where
  -- what passes nowhere is not counted
  pub count_never : (i n : ℕ) → ((k : ℕ) → i ≤ k → k < i + n → t k ≡ false) → count t i n ≡ 0
  unfolding count
  count_never i zero h = refl
  count_never i (suc n) h = rw (h i (omega arith) (omega arith), count_never (suc i) n (λ k l u. h k (omega arith) (omega arith)))

  -- none from i on passes: as many as find says
  pub count_none : (i n : ℕ) → find t i n ≡ i + n → count t i n ≡ 0
  count_none i n h = count_never i n (λ k l u. find-before t i n k l (omega arith))

  -- one passes, and then as many as pass behind it
  pub count-found : (i n : ℕ) → find t i n < i + n → count t i n ≡ suc (count t (suc (find t i n)) (i + n - suc (find t i n)))
  unfolding find count
  count-found i zero h = absurd (omega arith)
  count-found i (suc n) h = go (t i) h (count-found (suc i) n)
    where
      go : (u : Bool) → cond u i (find t (suc i) n) < i + suc n
          → (find t (suc i) n < suc i + n → count t (suc i) n ≡ suc (count t (suc (find t (suc i) n)) (suc i + n - suc (find t (suc i) n))))
          → cond u 1 0 + count t (suc i) n ≡ suc (count t (suc (cond u i (find t (suc i) n))) (i + suc n - suc (cond u i (find t (suc i) n))))
      go true h below = let q : i + suc n - suc i ≡ n = omega arith in rw q (omega arith)
      go false h below =
          let q : i + suc n - suc (find t (suc i) n) ≡ suc i + n - suc (find t (suc i) n) = omega arith in
          rw (q, below (omega arith)) (omega arith)

-- ---- counts, one number further

module _ (t : ℕ → Bool) where
  count_more : (i n : ℕ) → count t i (suc n) ≡ count t i n + cond (t (i + n)) 1 0
  unfolding count
  count_more i zero = rw (add-zero i) (omega arith)
  count_more i (suc n) = let q : suc i + n ≡ i + suc n = omega arith in rw (count_more (suc i) n, q, add_assoc (cond (t i) 1 0) (count t (suc i) n) (cond (t (i + suc n)) 1 0))

  pub nothing-counted : 0 ≡ count t 0 0
  unfolding count
  nothing-counted = refl

  -- one number more counted
  pub count_next : (counted i : ℕ) → counted ≡ count t 0 i → counted ≤ i → {r : ℕ} → r ≡ counted + cond (t i) 1 0 → (r ≡ count t 0 (i + 1)) × (r ≤ i + 1)
  count_next counted i e l s = (s ∙ sym (rw (add-one i, count_more 0 i, zero-add i, ← e)), most (t i) s)
    where
      most : (u : Bool) {r : ℕ} → r ≡ counted + cond u 1 0 → r ≤ i + 1
      most true e = omega arith
      most false e = omega arith

  -- the same where a branch counts: where the number passes, and where it does not
  pub count_turn : (counted i : ℕ) → counted ≡ count t 0 i → counted ≤ i → {r : ℕ} → ((t i ≡ true) × (r ≡ counted + 1)) ⊎ ((t i ≡ false) × (r ≡ counted))
      → (r ≡ count t 0 (i + 1)) × (r ≤ i + 1)
  count_turn counted i e l (inl w) = count_next counted i e l (rw w.0 w.1)
  count_turn counted i e l (inr w) = count_next counted i e l (let s = w.1 in rw w.0 (omega arith))

  pub count_most : (i n : ℕ) → count t i n ≤ n
  unfolding count
  count_most i zero = omega arith
  count_most i (suc n) = go (t i) (count_most (suc i) n)
    where
      go : (u : Bool) → count t (suc i) n ≤ n → cond u 1 0 + count t (suc i) n ≤ suc n
      go true h = omega arith
      go false h = omega arith

  -- a count in two parts
  count-append : (m i n : ℕ) → count t i (m + n) ≡ count t i m + count t (i + m) n
  unfolding count
  count-append zero i n = rw (zero-add n, add-zero i) (omega arith)
  count-append (suc m) i n =
      rw (suc-add m n, count-append m (suc i) n, add-suc i m, ← suc-add i m, add_assoc (cond (t i) 1 0) (count t (suc i) m) (count t (suc i + m) n))

  pub count_split : (i n : ℕ) → i ≤ n → count t 0 n ≡ count t 0 i + count t i (n - i)
  count_split i n h = let q : n ≡ i + (n - i) = omega arith in ap (count t 0) q ∙ count-append i 0 (n - i) ∙ rw (zero-add i)

  -- for loops that count what is left
  pub count_step : (i n : ℕ) → i < n → count t i (n - i) ≡ cond (t i) 1 0 + count t (i + 1) (n - (i + 1))
  unfolding count
  count_step i n h = let q : n - i ≡ suc (n - suc i) = omega arith in rw (q, add-one i)

-- ---- what a search finds, by its number

module _ (t : ℕ → Bool) where
  -- some number passes exactly where one is found
  pub some-found : (i n : ℕ) → some t i n ≡ not (eqb (find t i n) (i + n))
  unfolding some find
  some-found i zero = rw (add-zero i, eq-eqb i i refl)
  some-found i (suc n) = go (t i) (some-found (suc i) n)
    where
      go : (u : Bool) → some t (suc i) n ≡ not (eqb (find t (suc i) n) (suc i + n)) → (u || some t (suc i) n) ≡ not (eqb (cond u i (find t (suc i) n)) (i + suc n))
      go true below = rw (ne_eqb i (i + suc n) (λ e. omega arith))
      go false below = let q : i + suc n ≡ suc i + n = omega arith in rw q below

  -- the first refusal is at the number found
  pub first_found : (f : ℕ → Answer) (k i n : ℕ) (place : ℕ → ℕ) → ((j : ℕ) → i ≤ j → j < i + n → f j ≡ need (not (t j)) k (place j) j)
      → first f i n ≡ need (eqb (find t i n) (i + n)) k (place (find t i n)) (find t i n)
  unfolding first find
  first_found f k i zero place h = rw (add-zero i, eq-eqb i i refl)
  first_found f k i (suc n) place h = rw (h i (omega arith) (omega arith)) (go (t i) (first_found f k (suc i) n place (λ j l u. h j (omega arith) (omega arith))))
    where
      go : (u : Bool) → first f (suc i) n ≡ need (eqb (find t (suc i) n) (suc i + n)) k (place (find t (suc i) n)) (find t (suc i) n)
          → (need (not u) k (place i) i or_else first f (suc i) n) ≡ need (eqb (cond u i (find t (suc i) n)) (i + suc n)) k (place (cond u i (find t (suc i) n))) (cond u i (find t (suc i) n))
      go true below = rw (ne_eqb i (i + suc n) (λ e. omega arith))
      go false below = let q : i + suc n ≡ suc i + n = omega arith in rw q below

-- ---- numbers in a row, one more at the end

upto_next : (i n : ℕ) → upto i (suc n) ≡ upto i n ++ (i + n) ∷ []
upto_next i zero = rw add-zero
upto_next i (suc n) = ap (λ (l : List ℕ). i ∷ l) (upto_next (suc i) n ∙ rw (suc-add i n, add-suc i n))

upto-one_more : (n : ℕ) → upto 0 (n + 1) ≡ upto 0 n ++ n ∷ []
upto-one_more n = ap (upto 0) (add-one n) ∙ upto_next 0 n ∙ ap (λ (k : ℕ). upto 0 n ++ k ∷ []) (zero-add n)

-- what each gives, and the lists that they give joined

pub map-one_more : {A : Type 0} (f : ℕ → A) (n : ℕ) → map f (upto 0 (n + 1)) ≡ map f (upto 0 n) ++ (f n ∷ [])
map-one_more f n = ap (map f) (upto-one_more n) ∙ map-append f (upto 0 n) (n ∷ [])

pub join-append : {A : Type 0} (xs ys : List (List A)) → join (xs ++ ys) ≡ join xs ++ join ys
join-append [] ys = refl
join-append (x ∷ xs) ys = rw (join-append xs ys, append_assoc)

pub join-one_more : {A : Type 0} (f : ℕ → List A) (n : ℕ) → join (map f (upto 0 (n + 1))) ≡ join (map f (upto 0 n)) ++ f n
join-one_more f n = ap join (map-one_more f n) ∙ join-append (map f (upto 0 n)) (f n ∷ []) ∙ ap (λ (l : List _). join (map f (upto 0 n)) ++ l) (append-nil (f n))
