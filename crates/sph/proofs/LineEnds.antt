-- Where a line ends: what each test of the rest of a line answers, byte by byte and run by run.
-- Assumes nothing.
use Prim.Native.Nat.{ℕ, zero, suc, ◌+◌, ◌-◌, ◌≤◌, ◌<◌}
use mathlib.Core.Bool.{Bool, true, false, cond, ◌&&◌, not, or-false}
use mathlib.Core.List.{List, [], ◌∷◌}
use mathlib.Core.Logic.{⊎_elim}
use Rattle.std.specs.Prelude.{Option, Some, None}
use mathlib.Core.Path.{◌≡◌, refl, sym, ◌∙◌}
use native.Mathlib.Omega.{arith}
use native.Mathlib.Numerals.{add-one}
use lib.Dec.{eqb, ltb, eqb→eq, ltb→lt}
use lib.ListN.{length, get_or}
use borrow.Author.Tests.{eq-eqb, ne_eqb, eqb-true, le-leb, lt-leb}
use Rattle.layout.specs.Bytes.{part, byte_at}
use Rattle.layout.specs.Search.{find}
use Rattle.layout.specs.Sph.{ended, blanks, unquoted, quoted, value, keyword, line}
use Rattle.layout.specs.Text.{plain, fits}
use Rattle.layout.proofs.Laws.{and_T, lt-or-le, find_step, find_bounds}
use Rattle.text.specs.Blanks.{not_blank}
use Rattle.text.specs.Runs.{fails}
use Rattle.sph.specs.LineEnds.{ends_line, in_keyword, end_if, Ended}
use Rattle.text.proofs.Parts.{part-cons, part_end}

-- what is found of from..to lies in it
pub run_within : (t : ℕ → Bool) (from to r : ℕ) → from ≤ to → r ≡ find t from (to - from) → (from ≤ r) × (r ≤ to)
run_within t from to r h e = let k = find_bounds t from (to - from) in (omega (arith, k.0), omega (arith, k.1))

-- byte 10 stands at a place before `to`
module _ (b : List ℕ) (at to : ℕ) where
  pub ends-none : to ≤ at → false ≡ (ltb at to && ends_line b at)
  ends-none h = rw (lt-leb (suc at) to (omega arith))

  pub ends_test : at < to → eqb (get_or b at 0) 10 ≡ (ltb at to && ends_line b at)
  unfolding ends_line byte_at
  ends_test h = rw (le-leb (suc at) to (omega arith))

  pub ends_here : (r : Bool) → r ≡ (ltb at to && ends_line b at) → r ≡ true → (at < to) × (get_or b at 0 ≡ 10)
  unfolding ends_line byte_at
  ends_here r e h = let both = (and_T (ltb at to) (eqb (get_or b at 0) 10)).0 (rw (sym e ∙ h) tt) in (ltb→lt at to both.0, eqb→eq (get_or b at 0) 10 both.1)

-- this byte, and then what passes the rest
abbrev after : ℕ → (List ℕ → Bool) → List ℕ → Bool
after y rest [] = false
after y rest (x ∷ xs) = eqb x y && rest xs

passes_not : (t : ℕ → Bool) (x y : ℕ) → t x ≡ true → t y ≡ false → x ≡ y → ⊥
passes_not t x y e n q = let z : ◌≡◌ {A = ℕ} 0 1 = cc in omega arith

cond-and : (u a : Bool) → cond u a false ≡ (u && a)
cond-and true a = refl
cond-and false a = refl

plain_10 : fits plain 10 ≡ false
unfolding fits
plain_10 = refl

plain_34 : fits plain 34 ≡ false
unfolding fits
plain_34 = refl

keyword_10 : in_keyword 10 ≡ false
unfolding in_keyword
keyword_10 = refl

-- ---- the tests, a byte at a time

module _ (x : ℕ) (xs : List ℕ) where
  blanks_pass : eqb x 32 ≡ true → blanks (x ∷ xs) ≡ blanks xs
  unfolding blanks
  blanks_pass e = let q : x ≡ 32 = eqb-true x 32 e in rw (ne_eqb x 10 (λ n. omega arith), e)

  blanks_stop : eqb x 32 ≡ false → blanks (x ∷ xs) ≡ ended (x ∷ xs)
  unfolding blanks ended
  blanks_stop e = rw (e, or-false (eqb x 10))

  unquoted_pass : fits plain x ≡ true → unquoted (x ∷ xs) ≡ unquoted xs
  unfolding unquoted
  unquoted_pass e = rw (ne_eqb x 10 (passes_not (fits plain) x 10 e plain_10), e)

  quoted_pass : fits plain x ≡ true → quoted (x ∷ xs) ≡ quoted xs
  unfolding quoted
  quoted_pass e = rw (ne_eqb x 34 (passes_not (fits plain) x 34 e plain_34), e)

  keyword_pass : in_keyword x ≡ true → keyword (x ∷ xs) ≡ keyword xs
  unfolding keyword in_keyword
  keyword_pass e = rw (ne_eqb x 61 (passes_not in_keyword x 61 e refl), e)

  unquoted_stop : fits plain x ≡ false → unquoted (x ∷ xs) ≡ ended (x ∷ xs)
  unfolding unquoted ended
  unquoted_stop e = rw (e, or-false (eqb x 10))

  quoted_stop : fits plain x ≡ false → quoted (x ∷ xs) ≡ after 34 ended (x ∷ xs)
  unfolding quoted
  quoted_stop e = rw e (cond-and (eqb x 34) (ended xs))

  keyword_stop : in_keyword x ≡ false → keyword (x ∷ xs) ≡ after 61 value (x ∷ xs)
  unfolding keyword in_keyword
  keyword_stop e = rw e (cond-and (eqb x 61) (value xs))

module _ (b : List ℕ) (to : ℕ) where
  -- ---- one byte

  module _ (test : List ℕ → Bool) (i : ℕ) where
    -- no byte is left
    end_none : to ≤ i → test [] ≡ false → end_if test b i to ≡ None
    unfolding end_if
    end_none h e = rw (part_end b i to h, e)

    same_none : (rest : List ℕ → Bool) → to ≤ i → test [] ≡ rest [] → end_if test b i to ≡ end_if rest b i to
    unfolding end_if
    same_none rest h e = rw (part_end b i to h, e)

    module _ (h : i < to) (l : to ≤ length b) where
      same_here : (rest : List ℕ → Bool)
          → test (get_or b i 0 ∷ part b (i + 1) (to - (i + 1))) ≡ rest (get_or b i 0 ∷ part b (i + 1) (to - (i + 1)))
          → end_if test b i to ≡ end_if rest b i to
      unfolding end_if
      same_here rest e = rw (part-cons b i to h l, e)

      -- the byte is not byte 10: the end is where it is from the next byte on
      end_step : (rest : List ℕ → Bool) → (get_or b i 0 ≡ 10 → ⊥)
          → test (get_or b i 0 ∷ part b (i + 1) (to - (i + 1))) ≡ rest (part b (i + 1) (to - (i + 1)))
          → end_if test b i to ≡ end_if rest b (i + 1) to
      unfolding end_if ends_line byte_at
      end_step rest n e = rw (part-cons b i to h l, e, find_step (ends_line b) i to h, ne_eqb (get_or b i 0) 10 n)

      end_bad : test (get_or b i 0 ∷ part b (i + 1) (to - (i + 1))) ≡ false → end_if test b i to ≡ None
      unfolding end_if
      end_bad e = rw (part-cons b i to h l, e)

      end_here : get_or b i 0 ≡ 10 → test (get_or b i 0 ∷ part b (i + 1) (to - (i + 1))) ≡ true → end_if test b i to ≡ Some (i + 1)
      unfolding end_if ends_line byte_at
      end_here n e = rw (part-cons b i to h l, e, find_step (ends_line b) i to h, eq-eqb (get_or b i 0) 10 n)

  -- ---- a run of bytes that pass t, byte 10 not among them, and then another test

  module _ (t : ℕ → Bool) (test rest : List ℕ → Bool) (ten : t 10 ≡ false) (none : test [] ≡ rest [])
      (pass : (x : ℕ) (xs : List ℕ) → t x ≡ true → test (x ∷ xs) ≡ test xs)
      (stop : (x : ℕ) (xs : List ℕ) → t x ≡ false → test (x ∷ xs) ≡ rest (x ∷ xs)) (l : to ≤ length b) where
    run_to : (n i : ℕ) → i + n ≡ to → end_if test b i to ≡ end_if rest b (find (fails t b) i n) to
    unfolding find fails byte_at
    run_to zero i q = same_none test i rest (omega arith) none
    run_to (suc n) i q = go (t (get_or b i 0)) refl (run_to n (suc i) (omega arith))
      where
        h : i < to
        h = omega arith

        go : (u : Bool) → t (get_or b i 0) ≡ u → end_if test b (suc i) to ≡ end_if rest b (find (fails t b) (suc i) n) to
            → end_if test b i to ≡ end_if rest b (cond (not u) i (find (fails t b) (suc i) n)) to
        go true e below = end_step test i h l test (passes_not t (get_or b i 0) 10 e ten) (pass (get_or b i 0) (part b (i + 1) (to - (i + 1))) e) ∙ rw (add-one i) below
        go false e below = same_here test i h l rest (stop (get_or b i 0) (part b (i + 1) (to - (i + 1))) e)

  -- ---- what the code answers

  bad_end : (test : List ℕ → Bool) (at : ℕ) → end_if test b at to ≡ None → Ended test b at to None
  bad_end test at e = record { is = sym e; inside = tt }

  same_end : (test rest : List ℕ → Bool) (at i : ℕ) {r : Option ℕ} → end_if test b at to ≡ end_if rest b i to → Ended rest b i to r → Ended test b at to r
  same_end test rest at i e d = record { is = d.is ∙ sym e; inside = d.inside }

  -- only byte 10 follows; r says whether it stands there
  pub last_none : (at : ℕ) → at ≤ to → to ≤ length b → (r : Bool) → r ≡ (ltb at to && ends_line b at) → r ≡ false → Ended ended b at to None
  unfolding ended
  last_none at h l r e n =
      bad_end ended at
      (⊎_elim (λ m. end_bad ended at m l (ends_test b at to m ∙ sym e ∙ n)) (λ m. end_none ended at m refl) (lt-or-le at to))

  -- byte 10 stands there
  module _ (at : ℕ) (h : at < to) (l : to ≤ length b) where
    at_once : (test : List ℕ → Bool) → get_or b at 0 ≡ 10 → test (get_or b at 0 ∷ part b (at + 1) (to - (at + 1))) ≡ true → Ended test b at to (Some (at + 1))
    at_once test e g = record { is = sym (end_here test at h l e g); inside = omega arith }

    pub last_here : get_or b at 0 ≡ 10 → Ended ended b at to (Some (at + 1))
    unfolding ended
    last_here e = at_once ended e (eq-eqb (get_or b at 0) 10 e)

    pub blanks_here : get_or b at 0 ≡ 10 → Ended blanks b at to (Some (at + 1))
    unfolding blanks
    blanks_here e = at_once blanks e (rw (eq-eqb (get_or b at 0) 10 e))

    pub unquoted_here : get_or b at 0 ≡ 10 → Ended unquoted b at to (Some (at + 1))
    unfolding unquoted
    unquoted_here e = at_once unquoted e (rw (eq-eqb (get_or b at 0) 10 e))

  -- a run up to e
  module _ (at e : ℕ) (h : at ≤ to) (l : to ≤ length b) where
    pub blanks_run : e ≡ find (not_blank b) at (to - at) → {r : Option ℕ} → Ended ended b e to r → Ended blanks b at to r
    unfolding not_blank fails blanks ended
    blanks_run q d =
        same_end blanks ended at e (run_to (λ x. eqb x 32) blanks ended refl refl blanks_pass blanks_stop l (to - at) at (omega arith) ∙ rw (← q)) d

    pub unquoted_run : e ≡ find (fails (fits plain) b) at (to - at) → {r : Option ℕ} → Ended ended b e to r → Ended unquoted b at to r
    unfolding unquoted ended
    unquoted_run q d =
        same_end unquoted ended at e (run_to (fits plain) unquoted ended plain_10 refl unquoted_pass unquoted_stop l (to - at) at (omega arith) ∙ rw (← q)) d

    pub quoted_run : e ≡ find (fails (fits plain) b) at (to - at) → end_if quoted b at to ≡ end_if (after 34 ended) b e to
    unfolding quoted
    quoted_run q = run_to (fits plain) quoted (after 34 ended) plain_10 refl quoted_pass quoted_stop l (to - at) at (omega arith) ∙ rw (← q)

    pub keyword_run : e ≡ find (fails in_keyword b) at (to - at) → end_if keyword b at to ≡ end_if (after 61 value) b e to
    unfolding keyword
    keyword_run q = run_to in_keyword keyword (after 61 value) keyword_10 refl keyword_pass keyword_stop l (to - at) at (omega arith) ∙ rw (← q)

  -- behind a run: the byte y, and then the rest
  module _ (test rest : List ℕ → Bool) (y at e : ℕ) (so : end_if test b at to ≡ end_if (after y rest) b e to) where
    pub after_none : to ≤ e → Ended test b at to None
    after_none h = bad_end test at (so ∙ end_none (after y rest) e h refl)

    module _ (h : e < to) (l : to ≤ length b) where
      pub after-other : (get_or b e 0 ≡ y → ⊥) → Ended test b at to None
      after-other n = bad_end test at (so ∙ end_bad (after y rest) e h l (rw (ne_eqb (get_or b e 0) y n)))

      pub after_it : get_or b e 0 ≡ y → (y ≡ 10 → ⊥) → {r : Option ℕ} → Ended rest b (e + 1) to r → Ended test b at to r
      after_it n m d = same_end test rest at (e + 1) (so ∙ end_step (after y rest) e h l rest (λ w. m (sym n ∙ w)) (rw (eq-eqb (get_or b e 0) y n))) d

  pub value_none : (at : ℕ) → to ≤ at → Ended value b at to None
  unfolding value
  value_none at h = bad_end value at (end_none value at h refl)

  module _ (at : ℕ) (h : at < to) (l : to ≤ length b) where
    pub value-quoted : get_or b at 0 ≡ 34 → {r : Option ℕ} → Ended quoted b (at + 1) to r → Ended value b at to r
    unfolding value
    value-quoted e d = same_end value quoted at (at + 1) (end_step value at h l quoted (λ w. omega arith) (rw (eq-eqb (get_or b at 0) 34 e))) d

    -- a value that begins with no quote; u says whether its first byte is plain
    module _ (n : get_or b at 0 ≡ 34 → ⊥) (u : Bool) (e : u ≡ fits plain (get_or b at 0)) where
      pub value-bad : u ≡ false → Ended value b at to None
      unfolding value
      value-bad w = bad_end value at (end_bad value at h l (rw (ne_eqb (get_or b at 0) 34 n, ← e, w)))

      pub value-unquoted : u ≡ true → {r : Option ℕ} → Ended unquoted b (at + 1) to r → Ended value b at to r
      unfolding value
      value-unquoted w d =
          same_end value unquoted at (at + 1)
          (end_step value at h l unquoted (passes_not (fits plain) (get_or b at 0) 10 (sym e ∙ w) plain_10) (rw (ne_eqb (get_or b at 0) 34 n, ← e, w)))
          d

-- ---- the line

module _ (b : List ℕ) (at to : ℕ) (h : at < to) (l : to ≤ length b) where
  pub line-blanks : get_or b at 0 ≡ 32 → {r : Option ℕ} → Ended blanks b (at + 1) to r → Ended line b at to r
  unfolding line
  line-blanks e d = same_end b to line blanks at (at + 1) (end_step b to line at h l blanks (λ w. omega arith) (rw (eq-eqb (get_or b at 0) 32 e))) d

  pub line_low : (get_or b at 0 ≡ 32 → ⊥) → get_or b at 0 < 65 → Ended line b at to None
  unfolding line
  line_low n e = bad_end b to line at (end_bad b to line at h l (rw (ne_eqb (get_or b at 0) 32 n, lt-leb 65 (get_or b at 0) e)))

  pub line-high : (get_or b at 0 ≡ 32 → ⊥) → 90 < get_or b at 0 → Ended line b at to None
  unfolding line
  line-high n e =
      let k : 65 ≤ get_or b at 0 = omega arith in
      bad_end b to line at (end_bad b to line at h l (rw (ne_eqb (get_or b at 0) 32 n, le-leb 65 (get_or b at 0) k, lt-leb (get_or b at 0) 90 e)))

  pub line-keyword : (get_or b at 0 ≡ 32 → ⊥) → 65 ≤ get_or b at 0 → get_or b at 0 ≤ 90 → {r : Option ℕ} → Ended keyword b (at + 1) to r → Ended line b at to r
  unfolding line
  line-keyword n e f d =
      same_end b to line keyword at (at + 1)
      (end_step b to line at h l keyword (λ w. omega arith) (rw (ne_eqb (get_or b at 0) 32 n, le-leb 65 (get_or b at 0) e, le-leb (get_or b at 0) 90 f)))
      d
