-- What bytes are short of, put together: none of them is, or some byte is outside its bounds.
-- Assumes nothing.
use Prim.Native.Nat.{ℕ, zero, suc, ◌+◌, ◌-◌, ◌≤◌, ◌<◌}
use mathlib.Core.Bool.{Bool, true, false, ◌&&◌, ◌||◌, not, and-false}
use mathlib.Core.Logic.{◌⊎◌, inl, inr}
use mathlib.Core.List.{List}
use mathlib.Core.Path.{◌≡◌, refl, sym, ◌∙◌}
use native.Mathlib.Nat.{add-zero, zero-add, add-suc, suc-add}
use native.Mathlib.Omega.{arith}
use lib.Bits.{bit_or, or_add_and, and_le_l, and_le_r}
use lib.Dec.{leb, eqb}
use borrow.Author.Tests.{le-leb, lt-leb, eq-eqb, ne_eqb}
use Rattle.layout.specs.Bytes.{byte_at, within}
use Rattle.layout.specs.Search.{some}
use Rattle.layout.proofs.Laws.{not-not, lt-or-le}
use Rattle.text.proofs.Runs.{all_more}
use Rattle.times.specs.Formed.{lowest, highest, outside}

-- ---- nothing, put together of two, is nothing of either

or-none : (a b : ℕ) → eqb (bit_or a b) 0 ≡ (eqb a 0 && eqb b 0)
or-none a b = go (lt-or-le 0 a) (lt-or-le 0 b)
  where
    some_of : (0 < a + b) → bit_or a b ≡ 0 → ⊥
    some_of h e = omega (arith, or_add_and a b, and_le_l a b, and_le_r a b)

    go : (0 < a) ⊎ (a ≤ 0) → (0 < b) ⊎ (b ≤ 0) → eqb (bit_or a b) 0 ≡ (eqb a 0 && eqb b 0)
    go (inl l) m = rw (ne_eqb a 0 (λ e. omega arith)) (ne_eqb (bit_or a b) 0 (some_of (omega arith)))
    go (inr l) (inl m) = rw (ne_eqb b 0 (λ e. omega arith), and-false) (ne_eqb (bit_or a b) 0 (some_of (omega arith)))
    go (inr l) (inr m) = let p : a ≡ 0 = omega arith in let q : b ≡ 0 = omega arith in rw (p, q)

short_none : (least x : ℕ) → eqb (least - x) 0 ≡ leb least x
short_none least x = go (lt-or-le x least)
  where
    go : (x < least) ⊎ (least ≤ x) → eqb (least - x) 0 ≡ leb least x
    go (inl l) = rw (lt-leb least x l) (ne_eqb (least - x) 0 (λ e. omega arith))
    go (inr l) = rw (le-leb least x l) (eq-eqb (least - x) 0 (omega arith))

pub place_short : (t : List ℕ) (k : ℕ) {low high : ℕ} → low ≡ byte_at lowest k - byte_at t k → high ≡ byte_at t k - byte_at highest k
    → eqb (bit_or low high) 0 ≡ not (outside t k)
unfolding outside
place_short t k {low} {high} e f =
    or-none low high
    ∙ rw (e, f, short_none (byte_at lowest k) (byte_at t k), short_none (byte_at t k) (byte_at highest k))
    (sym (not-not (within (byte_at lowest k) (byte_at highest k) (byte_at t k))))

-- ---- the places so far, of the first 16 and of the last

abbrev pub none_outside : List ℕ → ℕ → Bool
none_outside t i = not (some (outside t) 0 i) && not (some (outside t) 11 i)

pub more_short : (t : List ℕ) (i short low high : ℕ) → eqb short 0 ≡ none_outside t i → eqb low 0 ≡ not (outside t i) → eqb high 0 ≡ not (outside t (11 + i))
    → eqb (bit_or short (bit_or low high)) 0 ≡ none_outside t (i + 1)
more_short t i short low high inv e f =
    let first = all_more (outside t) 0 i (not (some (outside t) 0 i)) (eqb low 0) refl (e ∙ rw zero-add) in
    let last = all_more (outside t) 11 i (not (some (outside t) 11 i)) (eqb high 0) refl f in
    or-none short (bit_or low high)
    ∙ rw (inv, or-none low high, regroup (not (some (outside t) 0 i)) (not (some (outside t) 11 i)) (eqb low 0) (eqb high 0), first, last)
  where
    regroup : (a b c d : Bool) → ((a && b) && (c && d)) ≡ ((a && c) && (b && d))
    regroup true true c d = refl
    regroup true false true d = refl
    regroup true false false d = refl
    regroup false b c d = refl

-- ---- the first 16 places and the last are all

some_join : (p : ℕ → Bool) (n i k : ℕ) → some p i (n + k) ≡ (some p i n || some p (i + n) k)
unfolding some
some_join p zero i k = rw (zero-add k, add-zero i)
some_join p (suc n) i k = rw (suc-add n k, some_join p n (suc i) k, suc-add i n, add-suc i n) (go (p i) (some p (suc i) n) (some p (suc (i + n)) k))
  where
    go : (a b c : Bool) → (a || (b || c)) ≡ ((a || b) || c)
    go true b c = refl
    go false b c = refl

overlap : (a b c : Bool) → (not (a || b) && not (b || c)) ≡ not ((a || b) || c)
overlap true b c = refl
overlap false true c = refl
overlap false false c = refl

pub all_short : (t : List ℕ) → none_outside t 16 ≡ not (some (outside t) 0 27)
all_short t =
    let p = outside t in
    rw (some_join p 11 0 5, some_join p 5 11 11, some_join p 16 0 11, some_join p 11 0 5) (overlap (some p 0 11) (some p 11 5) (some p 16 11))
