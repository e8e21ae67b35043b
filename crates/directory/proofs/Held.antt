-- What a reading of DSDs holds of their entries: the arrays, turn by turn, and that they are the numbers of a directory that rule 9 accepts.
-- Assumes nothing.
use Prim.Native.Nat.{ℕ, suc, ◌+◌, ◌*◌, ◌<◌}
use mathlib.Core.Bool.{Bool, true, false, not}
use mathlib.Core.List.{List, [], ◌∷◌, map, map-map}
use mathlib.Core.Path.{◌≡◌, refl, sym, ap, ◌∙◌}
use native.Mathlib.Omega.{arith}
use lib.Dec.{eqb}
use lib.IntN.{ℤ, pos}
use lib.ListN.{length}
use borrow.Author.Tests.{eqb-true}
use Rattle.layout.specs.Search.{find, upto}
use Rattle.layout.specs.Entries.{Entry, entry_from, entries_from, at, non_empty, non_empty_at, start, extent, numbers_fit}
use Rattle.layout.specs.Answers.{padded, type_of, count_of, record_size_of}
use Rattle.layout.proofs.Laws.{find-before, not-not}
use Rattle.layout.proofs.Sound.{length-entries, at-entries}
use Rattle.dsd.specs.declared.Entry.{Entry as HeldEntry}
use Rattle.dsd.specs.declared.Role.{Role}
use Rattle.dsd.specs.declared.Role.TheVariants.{Other}
use Rattle.dsd.specs.Held.{held_of, view_of, over_place, role_of, Read}
use Rattle.dsd.proofs.Views.{turn_held, over_held, held-non_empty}
use Rattle.directory.specs.Numbers.{sets_of, held_start, held_extent, held_role, held_sets}
use Rattle.directory.specs.Checks.{over_at, unfit_at}
use Rattle.directory.specs.declared.Sets.{Sets}

-- ---- one DSD read

module _ (b : List ℕ) (from n i : ℕ) (inside : i < n) (h : HeldEntry) (read : Read b (from + 280 * i) h) where
  pub held-is : h ≡ held_of (entry_from b from i)
  unfolding entry_from
  held-is = read.is

  at-is : at (entries_from b from n) i ≡ entry_from b from i
  at-is = at-entries b from n i inside

  pub over_is : {over : Bool} → over ≡ not (eqb (over_place (view_of h)) 0) → not over ≡ not (over_at (entries_from b from n) i)
  unfolding over_at
  over_is e = ap not (e ∙ rw (held-is, over_held (entry_from b from i), at-is))

  pub fits-is : {fits : Bool} → fits ≡ numbers_fit (view_of h) → fits ≡ not (unfit_at (entries_from b from n) i)
  unfolding unfit_at
  fits-is e = e ∙ rw (held-is, at-is) (sym (not-not (numbers_fit (view_of (held_of (entry_from b from i))))))

  pub counted_is : non_empty (view_of h) ≡ non_empty_at (entries_from b from n) i
  unfolding non_empty_at
  counted_is = rw (held-is, at-is) (held-non_empty (entry_from b from i))

-- ---- all of them

-- an array that holds something of each
module _ {A : Type 0} (g : Entry → A) (z : A) (b : List ℕ) (from n : ℕ) where
  abbrev pub of_entry : ℕ → A
  of_entry i = g (entry_from b from i)

  pub all_held : {l : List A} (i : ℕ) → i ≡ n → l ≡ padded 128 z (map of_entry (upto 0 i)) → l ≡ padded 128 z (map g (entries_from b from n))
  unfolding entries_from
  all_held i e h = h ∙ ap (λ (k : ℕ). padded 128 z (map of_entry (upto 0 k))) e ∙ ap (padded 128 z) (sym (map-map g (entry_from b from) (upto 0 n)))

pub all_read : (b : List ℕ) (from n : ℕ) {types offsets sizes counts : List ℕ} {record-sizes : List ℤ} {roles : List Role}
    → types ≡ padded 128 0 (map type_of (entries_from b from n)) → offsets ≡ padded 128 0 (map held_start (entries_from b from n))
    → sizes ≡ padded 128 0 (map held_extent (entries_from b from n)) → counts ≡ padded 128 0 (map count_of (entries_from b from n))
    → record-sizes ≡ padded 128 (pos 0) (map record_size_of (entries_from b from n)) → roles ≡ padded 128 Other (map held_role (entries_from b from n))
    → ◌≡◌ {A = Sets}
    (record { entries = n; types = types; offsets = offsets; sizes = sizes; counts = counts; record_sizes = record-sizes; roles = roles })
    (held_sets (entries_from b from n))
unfolding held_sets
all_read b from n t o s c r k =
    λ j. record {
      entries = sym (length-entries b from n) j;
      types = t j;
      offsets = o j;
      sizes = s j;
      counts = c j;
      record_sizes = r j;
      roles = k j;
    }

-- ---- where no number is over, what is held is what stands there

map_at : {A : Type 0} (f g : Entry → A) (ds : List Entry) → ((i : ℕ) → i < length ds → f (at ds i) ≡ g (at ds i)) → map f ds ≡ map g ds
unfolding at
map_at f g [] h = refl
map_at f g (d ∷ ds) h = rw (h 0 (omega arith), map_at f g ds (λ i l. h (suc i) (omega arith)))

module _ (ds : List Entry) (none : find (over_at ds) 0 (length ds) ≡ length ds) where
  pub not_over : (i : ℕ) → i < length ds → over_place (view_of (held_of (at ds i))) ≡ 0
  unfolding over_at
  not_over i l = over_held (at ds i) ∙ eqb-true (over_place (at ds i)) 0 (flip (eqb (over_place (at ds i)) 0) (find-before (over_at ds) 0 (length ds) i (omega arith) (omega arith)))
    where
      flip : (t : Bool) → not t ≡ false → t ≡ true
      flip true h = refl
      flip false h = sym h

  pub held_same : held_sets ds ≡ sets_of ds
  unfolding held_sets sets_of
  held_same =
      rw (
        map_at held_start start ds (λ i l. (turn_held (at ds i) (not_over i l)).offsets),
        map_at held_extent extent ds (λ i l. (turn_held (at ds i) (not_over i l)).sizes),
        map_at held_role role_of ds (λ i l. (turn_held (at ds i) (not_over i l)).roles),
      )
