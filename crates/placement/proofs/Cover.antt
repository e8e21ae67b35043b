-- The sets that hold a byte, the searches for one and for a byte in none, and rule 14 by the arrays against rule 14 over a directory that they hold.
-- Assumes nothing.
use Prim.Native.Nat.{ℕ, ◌+◌, ◌-◌, ◌≤◌, ◌<◌}
use mathlib.Core.Bool.{false, ◌&&◌, and-false}
use mathlib.Core.List.{List}
use mathlib.Core.Logic.{◌⊎◌, inl, inr, ⊎_elim}
use mathlib.Core.Path.{◌≡◌, ◌∙◌}
use native.Mathlib.Omega.{arith}
use lib.Dec.{T, leb, ltb, eqb}
use lib.ListN.{length, get_or}
use borrow.Author.Tests.{lt-ltb, le-ltb, le-leb, lt-leb}
use Rattle.layout.specs.Answer.{accepted, refused, none, need}
use Rattle.layout.specs.Search.{first, find}
use Rattle.layout.specs.Entries.{Entry, holds}
use Rattle.layout.specs.Rules.{holds_at, rule14_at}
use Rattle.layout.proofs.Laws.{lt-or-le, ltb_same, need-accepts, some-T, some_same, first_same, first_skip, find_at, find-before}
use Rattle.std.specs.Prelude.{Option, Some, None}
use Rattle.placement.specs.Sets.{FoundBelow, Held}
use Rattle.placement.proofs.Sets.{some_false}
use Rattle.placement.specs.Cover.{covers, covers_at, is_covered, rule14_by, Holding, Uncovered}

module _ (offset size p : ℕ) where
  pub holds_later : p < offset → false ≡ covers p offset size
  unfolding covers
  holds_later h = rw (lt-leb offset p h, and-false)

  pub holds_rest : offset ≤ p → ltb (p - offset) size ≡ covers p offset size
  unfolding covers
  holds_rest h = go (lt-or-le 0 size)
    where
      go : (0 < size) ⊎ (size ≤ 0) → ltb (p - offset) size ≡ (ltb 0 size && (leb offset p && ltb p (offset + size)))
      go (inl l) = rw (lt-ltb 0 size l, le-leb offset p h) (ltb_same (p - offset) size p (offset + size) (λ g. omega arith) (λ g. omega arith))
      go (inr l) = rw (le-ltb 0 size l) (le-ltb (p - offset) size (omega arith))

  holds_between : T (covers p offset size) → (offset ≤ p) × (p < offset + size)
  unfolding covers
  holds_between t = go (lt-or-le p offset) (lt-or-le (offset + size) (p + 1)) t
    where
      go : (p < offset) ⊎ (offset ≤ p) → (offset + size < p + 1) ⊎ (p + 1 ≤ offset + size) → T (ltb 0 size && (leb offset p && ltb p (offset + size))) → (offset ≤ p) × (p < offset + size)
      go (inl h) m u = absurd (rw (lt-leb offset p h, and-false) at u)
      go (inr h) (inl l) u = absurd (rw (le-ltb p (offset + size) (omega arith), and-false, and-false) at u)
      go (inr h) (inr l) u = (h, omega arith)

-- a set holds each byte from its first to its last
holds_each : (offset size k : ℕ) → offset ≤ k → k < offset + size → T (covers k offset size)
unfolding covers
holds_each offset size k l u = rw (lt-ltb 0 size (omega arith), le-leb offset k l, lt-ltb k (offset + size) u) tt

-- ---- the rule over a directory that the arrays hold

module _ (ds : List Entry) (offsets sizes : List ℕ) (held : Held ds offsets sizes) where
  holds_same : (p i : ℕ) → i < length ds → holds_at ds p i ≡ covers_at offsets sizes p i
  unfolding holds_at holds covers_at covers
  holds_same p i l = rw (held.filled i l, held.starts i l, held.extents i l)

  pub same14 : (p : ℕ) → rule14_at ds p ≡ rule14_by offsets sizes (length ds) p
  unfolding rule14_at rule14_by is_covered
  same14 p = rw (some_same (holds_at ds p) (covers_at offsets sizes p) 0 (length ds) (λ i v u. holds_same p i (omega arith)))

module _ (offsets sizes : List ℕ) (entries r : ℕ) where
  pub uncovered : (h n : ℕ) → r ≤ n → first (rule14_by offsets sizes entries) h (n - h) ≡ need (eqb r n) 14 r none → Uncovered offsets sizes entries h n r
  uncovered h n l e = record {
    within = l;
    answer = λ ds held q. first_same (rule14_at ds) (rule14_by offsets sizes entries) h (n - h) (λ k v u. same14 ds offsets sizes held k ∙ rw q) ∙ e;
  }

-- ---- the searches

module _ (offsets sizes : List ℕ) where
  -- a search for a set that holds p found one; the two from f on and before f found none
  pub holding_found : (n p f m r : ℕ) → f ≤ m → m ≤ n → r ≡ find (covers_at offsets sizes p) f (m - f) → r < m → Holding offsets sizes n p r
  unfolding covers_at
  holding_found n p f m r l u e h = record {
    within = omega arith;
    found = λ _. holds_between (get_or offsets r 0) (get_or sizes r 0) p (rw e (find_at (covers_at offsets sizes p) f (m - f) (omega arith)));
    missed = λ q. absurd (omega arith);
  }

  pub holding_before : (n p f : ℕ) → f ≤ n → n ≡ find (covers_at offsets sizes p) f (n - f) → (r : Option ℕ) → FoundBelow f (λ i. i ≡ find (covers_at offsets sizes p) 0 (f - 0)) r
      → FoundBelow n (Holding offsets sizes n p) r
  unfolding is_covered
  holding_before n p f l e (Some i) h = (omega arith, holding_found n p 0 f i (omega arith) l h.1 h.0)
  holding_before n p f l e None d = record {
    within = omega arith;
    found = λ q. absurd (omega arith);
    missed = λ _. some_false (covers_at offsets sizes p) 0 n (λ k w u. ⊎_elim
        (λ v. find-before (covers_at offsets sizes p) 0 (f - 0) k (omega arith) (omega arith))
        (λ v. find-before (covers_at offsets sizes p) f (n - f) k v (omega arith)) (lt-or-le k f));
  }

  pub byte_uncovered : (n p : ℕ) → is_covered offsets sizes n p ≡ false → rule14_by offsets sizes n p ≡ refused 14 p none
  unfolding rule14_by
  byte_uncovered n p e = rw e

  byte_covered : (n p : ℕ) → T (is_covered offsets sizes n p) → rule14_by offsets sizes n p ≡ accepted
  unfolding rule14_by
  byte_covered n p t = (need-accepts (is_covered offsets sizes n p) 14 p none).1 t

  -- what is left of the search for a byte in no set, behind the rest of a set that holds p or a part of it
  pub jump : (entries h n p i : ℕ) → first (rule14_by offsets sizes entries) h (n - h) ≡ first (rule14_by offsets sizes entries) p (n - p) → i < entries → get_or offsets i 0 ≤ p
      → (j : ℕ) → p ≤ j → j ≤ n → j ≤ get_or offsets i 0 + get_or sizes i 0 → first (rule14_by offsets sizes entries) h (n - h) ≡ first (rule14_by offsets sizes entries) j (n - j)
  unfolding is_covered covers_at
  jump entries h n p i so e o j l u v =
      so ∙ first_skip (rule14_by offsets sizes entries) p j n l u
      (λ k x y. byte_covered entries k ((some-T (covers_at offsets sizes k) entries).1 (i, e, holds_each (get_or offsets i 0) (get_or sizes i 0) k (omega arith) (omega arith))))
