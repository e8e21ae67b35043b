-- Bytes that may stand at their places are as laid out, where the tables are as strict as the layout.
-- Assumes nothing.
use Prim.Native.Nat.{ℕ, zero, suc, ◌+◌, ◌-◌, ◌≤◌, ◌<◌, suc-le-suc}
use mathlib.Core.Bool.{Bool, true, false, cond, ◌&&◌, not}
use mathlib.Core.List.{List, [], ◌∷◌}
use mathlib.Core.Logic.{⊎_elim}
use mathlib.Core.Path.{◌≡◌, refl, sym, ◌∙◌}
use Rattle.std.specs.Prelude.{Ok}
use native.Mathlib.Omega.{arith}
use native.Mathlib.Nat.{add-zero, zero-add, add-suc, suc-add}
use lib.Dec.{T, eqb, leb, eqb→eq, leb→le}
use lib.ListN.{length, get_or}
use borrow.Author.Tests.{eq-eqb, eqb-true, ne_eqb, le-leb, not-false}
use Rattle.layout.specs.Bytes.{bytes, byte_at, member, within}
use Rattle.layout.specs.Lines.{size_of_dsd, dsd}
use Rattle.layout.specs.Search.{some}
use Rattle.layout.specs.Text.{Class, exactly, plain, sign, digit, among, fits, layout, line_classes, value_classes}
use Rattle.layout.proofs.Tests.{is_true}
use Rattle.layout.proofs.Laws.{and_T, not-T', eqb-T, lt-or-le}
use Rattle.text.proofs.Runs.{all_more, tested}
use Rattle.lines.specs.Ranges.{may_stand, misplaced, narrow, strict, strict_but}
use Rattle.lines.specs.Table.{bad_place, checked}
use Rattle.lines.proofs.Spans.{checked-good}

-- one place more that is tested
pub one_more : (t : ℕ → Bool) (from i : ℕ) (all good : Bool) → from ≤ i → all ≡ not (some t from (i - from)) → good ≡ not (t i) → (all && good) ≡ not (some t from (i + 1 - from))
one_more t from i all good l e h =
    let q : from + (i - from) ≡ i = omega arith in
    let k : i + 1 - from ≡ i - from + 1 = omega arith in
    rw k (all_more t from (i - from) all good e (rw q h))

-- ---- a byte that may stand between two

record Standing (lo hi barred x : ℕ) : Type 0 where
  low : lo ≤ x
  high : x ≤ hi
  other : x ≡ barred → ⊥

standing : (lo hi barred x : ℕ) → T (may_stand lo hi barred x) → Standing lo hi barred x
unfolding may_stand
standing lo hi barred x h =
    let range = (and_T (within lo hi x) _).0 h in
    let ends = (and_T (leb lo x) (leb x hi)).0 range.0 in
    record { low = leb→le lo x ends.0; high = leb→le x hi ends.1; other = λ e. (not-T' (eqb x barred)).0 range.1 ((eqb-T x barred).1 e) }

narrow-fits : (k : Class) (lo hi barred x : ℕ) → T (narrow k lo hi barred) → Standing lo hi barred x → fits k x ≡ true
unfolding narrow fits
narrow-fits (exactly y) lo hi barred x h w =
    let g = (and_T (eqb lo y) _).0 h in
    eq-eqb x y (alone (eqb→eq lo y g.0) (eqb y 32) refl g.1)
  where
    alone : lo ≡ y → (t : Bool) → eqb y 32 ≡ t → T (cond t (eqb hi 33 && eqb barred 33) (eqb hi y)) → x ≡ y
    alone e true q m =
        let f = (and_T (eqb hi 33) (eqb barred 33)).0 m in
        ⊎_elim
        (λ n. absurd (w.other (let same : x ≡ barred = omega (arith, eqb→eq hi 33 f.0, eqb→eq barred 33 f.1, n, w.high) in same)))
        (λ n. omega (arith, e, eqb-true y 32 q, n, w.low))
        (lt-or-le 32 x)
    alone e false q m = omega (arith, e, eqb→eq hi y m, w.low, w.high)
narrow-fits plain lo hi barred x h w =
    let g = (and_T (leb 32 lo) _).0 h in
    let f = (and_T (leb hi 126) (eqb barred 34)).0 g.1 in
    rw (le-leb 32 x (omega (arith, leb→le 32 lo g.0, w.low)), le-leb x 126 (omega (arith, leb→le hi 126 f.0, w.high)), ne_eqb x 34 (λ e. w.other (e ∙ sym (eqb→eq barred 34 f.1))))
narrow-fits sign lo hi barred x h w =
    let g = (and_T (eqb lo 43) _).0 h in
    let f = (and_T (eqb hi 45) (eqb barred 44)).0 g.1 in
    ⊎_elim
    (λ m. let e : x ≡ 45 = omega (arith, m, eqb→eq hi 45 f.0, w.high) in rw e)
    (λ m. let e : x ≡ 43 = low (eqb→eq lo 43 g.0) (eqb→eq barred 44 f.1) m in rw e)
    (lt-or-le 44 x)
  where
    low : lo ≡ 43 → barred ≡ 44 → x ≤ 44 → x ≡ 43
    low e f m = ⊎_elim (λ n. absurd (w.other (let q : x ≡ barred = omega (arith, f, m, n) in q))) (λ n. omega (arith, e, n, w.low)) (lt-or-le 43 x)
narrow-fits digit lo hi barred x h w =
    let g = (and_T (leb 48 lo) (leb hi 57)).0 h in
    rw (le-leb 48 x (omega (arith, leb→le 48 lo g.0, w.low)), le-leb x 57 (omega (arith, leb→le hi 57 g.1, w.high)))
narrow-fits (among ys) lo hi barred x h w =
    let g = (and_T (member lo ys) _).0 h in
    let f = (and_T (member hi ys) (leb hi (lo + 1))).0 g.1 in
    ⊎_elim
    (λ m. let e : x ≡ hi = omega (arith, m, leb→le hi (lo + 1) f.1, w.high) in rw e (is_true (member hi ys) f.0))
    (λ m. let e : x ≡ lo = omega (arith, m, w.low) in rw e (is_true (member lo ys) g.0))
    (lt-or-le lo x)

-- ---- a header

-- each of the places from..to behind `at` has a byte that may stand there
pub record Stand (lows highs barred b : List ℕ) (at from to : ℕ) : Type 0 where
  each : (j : ℕ) → from ≤ j → j < to → T (may_stand (get_or lows j 0) (get_or highs j 0) (get_or barred j 0) (byte_at b (at + j)))

-- r is what the test of these places as a whole answers
pub stand : (lows highs barred b : List ℕ) (from to : ℕ) (r : Bool) → r ≡ not (some (misplaced lows highs barred b) from (to - from)) → r ≡ true → Stand lows highs barred b 0 from to
unfolding misplaced byte_at
stand lows highs barred b from to r found h = record {
  each = λ j l u. rw (zero-add j, not-false (may_stand (get_or lows j 0) (get_or highs j 0) (get_or barred j 0) (get_or b j 0)) (tested (misplaced lows highs barred b) (to - from) from r found h j l (omega arith))) tt;
}

-- two parts, one after the other
pub stand_on : {lows highs barred b : List ℕ} {at from mid to : ℕ} → Stand lows highs barred b at from mid → Stand lows highs barred b at mid to → Stand lows highs barred b at from to
stand_on {mid = mid} first then = record { each = λ j l u. ⊎_elim (λ m. first.each j l m) (λ m. then.each j m u) (lt-or-le j mid) }

-- the first byte, and those behind it
module _ {lo hi u : ℕ} {lows highs barred b : List ℕ} {at : ℕ} (k : Class) (ks : List Class) (all : Stand (lo ∷ lows) (hi ∷ highs) (u ∷ barred) b at 0 (length (k ∷ ks))) where
  here : T (narrow k lo hi u) → fits k (byte_at b at) ≡ true
  here h = narrow-fits k lo hi u (byte_at b at) h (standing lo hi u (byte_at b at) (rw (add-zero at) at (all.each 0 (omega arith) (omega arith))))

  behind : Stand lows highs barred b (suc at) 0 (length ks)
  behind = record { each = λ j l u. rw (suc-add at j, ← add-suc at j) (all.each (suc j) (omega arith) (suc-le-suc u)) }

  both : fits k (byte_at b at) ≡ true → suc at + length ks ≡ bad_place ks b (suc at) → at + length (k ∷ ks) ≡ bad_place (k ∷ ks) b at
  unfolding bad_place
  both good e = rw (good, add-suc at (length ks), ← suc-add at (length ks)) e

pub strict-laid : (ks : List Class) (lows highs barred b : List ℕ) (at : ℕ) → T (strict ks lows highs barred) → Stand lows highs barred b at 0 (length ks) → at + length ks ≡ bad_place ks b at
unfolding strict bad_place
strict-laid [] lows highs barred b at h all = add-zero at
strict-laid (k ∷ ks) [] highs barred b at h all = absurd h
strict-laid (k ∷ ks) (lo ∷ lows) [] barred b at h all = absurd h
strict-laid (k ∷ ks) (lo ∷ lows) (hi ∷ highs) [] b at h all = absurd h
strict-laid (k ∷ ks) (lo ∷ lows) (hi ∷ highs) (u ∷ barred) b at h all =
    let g = (and_T (narrow k lo hi u) (strict ks lows highs barred)).0 h in
    both k ks all (here k ks all g.0)
    (strict-laid ks lows highs barred b (suc at) g.1 (behind k ks all))

strict_but-laid : (m : ℕ) (ks : List Class) (lows highs barred b : List ℕ) (at : ℕ) → T (strict_but m ks lows highs barred) → Stand lows highs barred b at 0 (length ks)
    → fits (get_or ks m plain) (byte_at b (at + m)) ≡ true → at + length ks ≡ bad_place ks b at
unfolding strict_but bad_place
strict_but-laid m [] lows highs barred b at h all good = add-zero at
strict_but-laid m (k ∷ ks) [] highs barred b at h all good = absurd h
strict_but-laid m (k ∷ ks) (lo ∷ lows) [] barred b at h all good = absurd h
strict_but-laid m (k ∷ ks) (lo ∷ lows) (hi ∷ highs) [] b at h all good = absurd h
strict_but-laid zero (k ∷ ks) (lo ∷ lows) (hi ∷ highs) (u ∷ barred) b at h all good =
    both k ks all (rw (add-zero at) at good) (strict-laid ks lows highs barred b (suc at) h (behind k ks all))
strict_but-laid (suc m) (k ∷ ks) (lo ∷ lows) (hi ∷ highs) (u ∷ barred) b at h all good =
    let g = (and_T (narrow k lo hi u) (strict_but m ks lows highs barred)).0 h in
    both k ks all (here k ks all g.0)
    (strict_but-laid m ks lows highs barred b (suc at) g.1 (behind k ks all) (rw (suc-add at m, ← add-suc at m) good))

-- a DSD, whose type is good
pub dsd-laid : (lows highs barred b : List ℕ) → T (strict_but 47 (layout dsd) lows highs barred) → Stand lows highs barred b 0 0 size_of_dsd → fits (among (bytes "MAGR")) (get_or b 47 0) ≡ true → Ok (tt {0}) ≡ checked size_of_dsd (bad_place (layout dsd) b 0)
unfolding byte_at layout dsd line_classes value_classes
dsd-laid lows highs barred b h all good = checked-good _ _ (sym (strict_but-laid 47 (layout dsd) lows highs barred b 0 h all good))
