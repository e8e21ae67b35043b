-- The search for a bad line, from line to line: a good line is skipped whole, since no line begins at its other bytes. Rule 7 is this search.
-- Assumes nothing.
use Prim.Native.Nat.{ℕ, zero, suc, ◌+◌, ◌-◌, ◌≤◌, ◌<◌}
use mathlib.Core.Bool.{Bool, true, false, cond, ◌&&◌, not}
use mathlib.Core.List.{List}
use mathlib.Core.Logic.{⊎_elim}
use Rattle.std.specs.Prelude.{Some, None}
use mathlib.Core.Path.{◌≡◌, refl, ◌∙◌}
use native.Mathlib.Omega.{arith}
use native.Mathlib.Nat.{add-zero, sub-zero}
use lib.Dec.{eqb, eqb→eq}
use lib.ListN.{drop}
use borrow.Author.Tests.{eq-eqb, ne_eqb, eqb-false}
use Rattle.layout.specs.Answer.{none, need, ◌⇒◌, ◌or_else◌}
use Rattle.layout.specs.Bytes.{part, byte_at}
use Rattle.layout.specs.Rules.{rule7_at}
use Rattle.layout.specs.Search.{find, first}
use Rattle.layout.specs.Sph.{line, line_begins}
use Rattle.layout.proofs.Laws.{lt-or-le, find_step, find_end, find_bounds, find-before, find_at}
use Rattle.text.proofs.Parts.{drop-part, byte_part}
use Rattle.text.proofs.Runs.{find_past}
use Rattle.sph.specs.LineEnds.{ends_line, end_if, Ended, bad_line_at, first_bad_line}

-- ---- what the line test tells

-- a good line in from..to: r is the place behind its byte 10, the first from `from` on
pub record GoodLine (b : List ℕ) (from to r : ℕ) : Type 0 where
  pub good : line (part b from (to - from)) ≡ true
  pub on : from < r
  pub inside : r ≤ to
  pub ten : byte_at b (r - 1) ≡ 10
  pub before : (k : ℕ) → from ≤ k → k + 1 < r → byte_at b k ≡ 10 → ⊥

module _ (b : List ℕ) (from to : ℕ) where
  pub line-bad : Ended line b from to None → line (part b from (to - from)) ≡ false
  unfolding end_if
  line-bad d = go (line (part b from (to - from))) d.is
    where
      go : (u : Bool) → None ≡ cond u (Some (find (ends_line b) from (to - from) + 1)) None → u ≡ false
      go true w = cc
      go false w = refl

  pub line-good : (r : ℕ) → Ended line b from to (Some r) → GoodLine b from to r
  unfolding end_if ends_line
  line-good r d = go (line (part b from (to - from))) refl d.is
    where
      go : (u : Bool) → line (part b from (to - from)) ≡ u → Some r ≡ cond u (Some (find (ends_line b) from (to - from) + 1)) None → GoodLine b from to r
      go true q w =
          let k = find_bounds (ends_line b) from (to - from) in
          let m = d.inside in
          let n : r ≡ find (ends_line b) from (to - from) + 1 = cc in
          let e : r - 1 ≡ find (ends_line b) from (to - from) = omega arith in
          record {
            good = q;
            on = omega (arith, k.0);
            inside = m;
            ten = rw e (eqb→eq (byte_at b (find (ends_line b) from (to - from))) 10 (find_at (ends_line b) from (to - from) (omega arith)));
            before = λ i v u. eqb-false (byte_at b i) 10 (find-before (ends_line b) from (to - from) i v (omega arith));
          }
      go false q w = cc

-- ---- the search for a bad line, at each byte of the lines in from..to

module _ (b : List ℕ) (from to : ℕ) where
  abbrev lines : List ℕ
  lines = part b from (to - from)

  -- a line begins behind each byte 10
  begins : (k : ℕ) → from < k → k ≤ to → line_begins lines (k - from) ≡ eqb (byte_at b (k - 1)) 10
  unfolding line_begins
  begins k l u =
      let q : k - from ≡ suc (k - suc from) = omega arith in
      let w : k - 1 ≡ from + (k - suc from) = omega arith in
      rw (q, w, byte_part b from (to - from) (k - suc from) (omega arith))

  -- where a line begins it is tested
  at-line : (k : ℕ) → from ≤ k → k ≤ to → line_begins lines (k - from) ≡ true → bad_line_at lines (k - from) ≡ not (line (part b k (to - k)))
  unfolding bad_line_at
  at-line k l u e =
      let q : from + (k - from) ≡ k = omega arith in
      let w : to - from - (k - from) ≡ to - k = omega arith in
      rw (e, drop-part b from (to - from) (k - from), q, w)

  -- elsewhere nothing is
  in_line : (k : ℕ) → from < k → k ≤ to → (byte_at b (k - 1) ≡ 10 → ⊥) → bad_line_at lines (k - from) ≡ false
  unfolding bad_line_at
  in_line k l u n = rw (begins k l u, ne_eqb (byte_at b (k - 1)) 10 n)

  -- a line begins at k, and what is left of the search from there on is the whole search
  pub record Reached (k : ℕ) : Type 0 where
    pub low : from ≤ k
    pub high : k ≤ to
    pub begin : line_begins lines (k - from) ≡ true
    pub left : find (bad_line_at lines) 0 (to - from) ≡ find (bad_line_at lines) (k - from) (to - from - (k - from))

  pub reached-first : from ≤ to → Reached from
  unfolding line_begins
  reached-first h =
      let q : from - from ≡ 0 = omega arith in
      record { low = omega arith; high = h; begin = rw q; left = rw (q, sub-zero (to - from)) }

  module _ (s : ℕ) (so : Reached s) where
    pub reached-bad : s < to → line (part b s (to - s)) ≡ false → s ≡ first_bad_line b from to
    unfolding first_bad_line
    reached-bad h e =
        rw (so.left, find_step (bad_line_at lines) (s - from) (to - from) (omega (arith, so.low)), at-line s so.low so.high so.begin, e)
        (omega (arith, so.low))

    pub reached_end : to ≤ s → to ≡ first_bad_line b from to
    unfolding first_bad_line
    reached_end h =
        let q : s ≡ to = omega (arith, so.high) in
        rw (so.left, q, find_end (bad_line_at lines) (to - from)) (omega (arith, so.low))

    pub reached-next : (r : ℕ) → GoodLine b s to r → Reached r
    reached-next r g = record {
      low = omega (arith, so.low, g.on);
      high = g.inside;
      begin = begins r (omega (arith, so.low, g.on)) g.inside ∙ eq-eqb (byte_at b (r - 1)) 10 g.ten;
      left = so.left ∙ find_past (bad_line_at lines) (s - from) (r - from) (to - from) (omega (arith, g.on)) (omega (arith, g.inside)) skipped;
    }
      where
        skipped : (k : ℕ) → s - from ≤ k → k < r - from → bad_line_at lines k ≡ false
        skipped k v w =
            let q : from + k - from ≡ k = omega arith in
            ⊎_elim
            (λ m. rw q at (in_line (from + k) (omega arith) (omega (arith, g.inside)) (g.before (from + k - 1) (omega (arith, so.low)) (omega arith))))
            (λ m. let e : k ≡ s - from = omega arith in rw (e, at-line s so.low so.high so.begin, g.good))
            (lt-or-le (s - from) k)

-- ---- rule 7: the search from the end of the main header on

seven_found : (l : List ℕ) (i n : ℕ) → first (rule7_at l) i n ≡ need (eqb (1247 + find (bad_line_at l) i n) (1247 + (i + n))) 7 (1247 + find (bad_line_at l) i n) none
unfolding first find rule7_at bad_line_at
seven_found l i zero = rw (add-zero i, eq-eqb (1247 + i) (1247 + i) refl)
seven_found l i (suc n) = go (line_begins l i) (line (drop i l)) (find (bad_line_at l) (suc i) n) (seven_found l (suc i) n)
  where
    go : (u v : Bool) (next : ℕ) → first (rule7_at l) (suc i) n ≡ need (eqb (1247 + next) (1247 + (suc i + n))) 7 (1247 + next) none
        → (need (u ⇒ v) 7 (1247 + i) none or_else first (rule7_at l) (suc i) n)
        ≡ need (eqb (1247 + cond (u && not v) i next) (1247 + (i + suc n))) 7 (1247 + cond (u && not v) i next) none
    go true true next below = let q : i + suc n ≡ suc i + n = omega arith in rw q below
    go true false next below = rw (ne_eqb (1247 + i) (1247 + (i + suc n)) (λ e. omega arith))
    go false v next below = let q : i + suc n ≡ suc i + n = omega arith in rw q below

pub rule_7 : (b : List ℕ) (to r : ℕ) → 1247 ≤ to → r ≡ first_bad_line b 1247 to
    → first (rule7_at (part b 1247 (to - 1247))) 0 (to - 1247) ≡ need (eqb r to) 7 r none
unfolding first_bad_line
rule_7 b to r h e =
    let q : 1247 + (0 + (to - 1247)) ≡ to = omega arith in
    seven_found (part b 1247 (to - 1247)) 0 (to - 1247) ∙ rw (q, ← e)
