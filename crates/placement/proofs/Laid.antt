-- Where none of the three searches finds anything, by the numbers of the sets alone: they lie as rules 12 to 14 say.
-- Assumes nothing.
use Prim.Native.Nat.{ℕ, ◌+◌, ◌-◌, ◌≤◌, ◌<◌}
use mathlib.Core.Bool.{false}
use mathlib.Core.List.{List, [], map}
use mathlib.Core.Logic.Iff
use mathlib.Core.Logic.{◌↔◌}
use mathlib.Core.Path.{◌≡◌, refl, sym, ap, ◌∙◌}
use native.Mathlib.Omega.{arith}
use native.Mathlib.Nat.{zero-add}
use lib.Dec.{eqb}
use lib.ListN.{length, get_or}
use borrow.Author.Tests.{eq-eqb}
use Rattle.layout.specs.Text.{Number, whole}
use Rattle.layout.specs.Answer.{Answer, accepted, need}
use Rattle.layout.specs.Search.{first, upto}
use Rattle.layout.specs.Entries.{Entry, at, start, extent, is_data, non_empty}
use Rattle.layout.proofs.Laws.{and_T, imp-T, not-T', leb-T, need-accepts, first-accepts, some-T}
use Rattle.layout.proofs.Sound.{length-map-upto, get_or-map-upto}
use Rattle.placement.specs.Sets.{is_inside, overlaps, overlaps_at, rule12_by, rule13_by, Held}
use Rattle.placement.specs.Cover.{covers, covers_at, is_covered, rule14_by, NoneFound}
use Rattle.placement.proofs.Sets.{same12, same13, outside, overlapping}
use Rattle.placement.proofs.Cover.{same14, uncovered}

-- sets i and j share a byte; set i holds the byte p
abbrev pub Sharing : List ℕ → List ℕ → ℕ → ℕ → Type 0
Sharing offsets sizes i j =
    (0 < get_or sizes i 0) × ((0 < get_or sizes j 0) × ((get_or offsets i 0 < get_or offsets j 0 + get_or sizes j 0) × (get_or offsets j 0 < get_or offsets i 0 + get_or sizes i 0)))

abbrev pub Holds : List ℕ → List ℕ → ℕ → ℕ → Type 0
Holds offsets sizes p i = (0 < get_or sizes i 0) × ((get_or offsets i 0 ≤ p) × (p < get_or offsets i 0 + get_or sizes i 0))

-- the non-empty sets lie between h and n, no two share a byte, and each byte from h to n is in one
pub record Laid (offsets sizes : List ℕ) (entries h n : ℕ) : Type 0 where
  pub inside : (i : ℕ) → i < entries → 0 < get_or sizes i 0 → (h ≤ get_or offsets i 0) × (get_or offsets i 0 + get_or sizes i 0 ≤ n)
  pub apart : (i : ℕ) → i < entries → ((j : ℕ) × (j < i) × Sharing offsets sizes i j) → ⊥
  pub covered : (p : ℕ) → h ≤ p → p < n → (i : ℕ) × (i < entries) × Holds offsets sizes p i

-- what each rule says of one entry or byte
module _ (offsets sizes : List ℕ) where
  says12 : (h n i : ℕ) → (rule12_by offsets sizes h n i ≡ accepted) ↔ (0 < get_or sizes i 0 → (h ≤ get_or offsets i 0) × (get_or offsets i 0 + get_or sizes i 0 ≤ n))
  unfolding rule12_by is_inside
  says12 h n i = simp (need-accepts, imp-T, and_T, leb-T) Iff.rfl

  says13 : (i : ℕ) → (rule13_by offsets sizes i ≡ accepted)
      ↔ (((j : ℕ) × (j < i) × Sharing offsets sizes i j) → ⊥)
  unfolding rule13_by overlaps_at overlaps
  says13 i = simp (need-accepts, not-T', some-T, and_T, leb-T) Iff.rfl

  says14 : (entries p : ℕ) → (rule14_by offsets sizes entries p ≡ accepted) ↔ ((i : ℕ) × (i < entries) × Holds offsets sizes p i)
  unfolding rule14_by is_covered covers_at covers
  says14 entries p = simp (need-accepts, some-T, and_T, leb-T) Iff.rfl

-- ---- a directory that given arrays hold

abbrev numbered : ℕ → Number
numbered k = record { minus = false; magnitude = k }

abbrev set : ℕ → ℕ → Entry
set offset size = record { type = 77; name = []; filename = []; offset = numbered offset; size = numbered size; count = numbered 0; record_size = numbered 0 }

module _ (offsets sizes : List ℕ) where
  abbrev set_at : ℕ → Entry
  set_at i = set (get_or offsets i 0) (get_or sizes i 0)

  module _ (n : ℕ) where
    sets : List Entry
    sets = map set_at (upto 0 n)

    length-sets : length sets ≡ n
    unfolding sets
    length-sets = length-map-upto set_at 0 n

    at_set : (i : ℕ) → i < length sets → at sets i ≡ set_at i
    unfolding at sets
    at_set i l = get_or-map-upto set_at _ 0 n i (omega (arith, length-sets)) ∙ ap set_at (zero-add i)

    sets_held : Held sets offsets sizes
    unfolding start extent non_empty is_data whole
    sets_held = record {
      starts = λ i l. rw (at_set i l);
      extents = λ i l. rw (at_set i l);
      filled = λ i l. rw (at_set i l);
    }

-- ---- nothing is found exactly where the sets lie so

module _ (offsets sizes : List ℕ) (entries h n : ℕ) where
  pub laid_none : Laid offsets sizes entries h n → NoneFound offsets sizes entries h n
  laid_none laid = record {
    inside = outside offsets sizes entries entries h n (omega arith) (none _ 0 entries 12 _ _ (λ i u v. (says12 offsets sizes h n i).1 (laid.inside i v)));
    apart = overlapping offsets sizes entries entries (omega arith) (none _ 0 entries 13 _ _ (λ i u v. (says13 offsets sizes i).1 (laid.apart i v)));
    covered = uncovered offsets sizes entries n h n (omega arith) (none _ h n 14 _ _ (λ p u v. (says14 offsets sizes entries p).1 (laid.covered p u v)));
  }
    where
      none : (f : ℕ → Answer) (i m k p e : ℕ) → ((j : ℕ) → i ≤ j → j < m → f j ≡ accepted) → first f i (m - i) ≡ need (eqb m m) k p e
      none f i m k p e all = rw (eq-eqb m m refl) ((first-accepts f i (m - i)).1 (λ j u v. all j u (omega arith)))

  pub none-laid : NoneFound offsets sizes entries h n → Laid offsets sizes entries h n
  none-laid found = record {
    inside = λ i l. (says12 offsets sizes h n i).0 (sym (same12 ds offsets sizes held h n i (omega (arith, many))) ∙ all _ 0 entries entries _ _ _ (found.inside.answer ds held many) i (omega arith) (omega arith));
    apart = λ i l. (says13 offsets sizes i).0 (sym (same13 ds offsets sizes held i (omega (arith, many))) ∙ all _ 0 entries entries _ _ _ (found.apart.answer ds held many) i (omega arith) (omega arith));
    covered = λ p l u. (says14 offsets sizes entries p).0 (rw many at (sym (same14 ds offsets sizes held p)) ∙ all _ h (n - h) n _ _ _ (found.covered.answer ds held many) p l (omega arith));
  }
    where
      ds : List Entry
      ds = sets offsets sizes entries

      held : Held ds offsets sizes
      held = sets_held offsets sizes entries

      many : length ds ≡ entries
      many = length-sets offsets sizes entries

      all : (f : ℕ → Answer) (i m r k p e : ℕ) → first f i m ≡ need (eqb r r) k p e → (j : ℕ) → i ≤ j → j < i + m → f j ≡ accepted
      all f i m r k p e q = (first-accepts f i m).0 (q ∙ rw (eq-eqb r r refl))
