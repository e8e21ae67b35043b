-- The numbers of a directory's entries held together, and the directory made of them and of the texts of its DSDs.
-- Assumes nothing.
use Rattle.std.specs.Prelude.{ℕ, List, map, ℤ, pos, length, replicate}
use Rattle.layout.specs.Search.{join}
use Rattle.layout.specs.Entries.{Entry, start, extent}
use Rattle.layout.specs.Answers.{padded, type_of, name_of, filename_of, count_of, record_size_of}
use Rattle.layout.specs.declared.Directory.{Directory}
use Rattle.dsd.specs.declared.Role.{Role}
use Rattle.dsd.specs.declared.Role.TheVariants.{Other}
use Rattle.dsd.specs.Held.{role_of, held_of, view_of}
use Rattle.ranks.specs.Ranks.{ranks_by}
use Rattle.directory.specs.declared.Sets.{Sets}

abbrev pub together : ℕ → List ℕ → List ℕ → List ℕ → List ℕ → List ℤ → List Role → Sets
together n types offsets sizes counts record-sizes roles =
    record { entries = n; types = types; offsets = offsets; sizes = sizes; counts = counts; record_sizes = record-sizes; roles = roles }

-- type, count and record size of each entry, and these three of it
abbrev pub sets_by : (starts extents : Entry → ℕ) → (Entry → Role) → List Entry → Sets
sets_by starts extents roles ds =
    together
    (length ds)
    (padded 128 0 (map type_of ds))
    (padded 128 0 (map starts ds))
    (padded 128 0 (map extents ds))
    (padded 128 0 (map count_of ds))
    (padded 128 (pos 0) (map record_size_of ds))
    (padded 128 Other (map roles ds))

unfoldable pub sets_of : List Entry → Sets
sets_of ds = sets_by start extent role_of ds

abbrev pub no_sets : Sets
no_sets =
    together 0 (replicate 128 0) (replicate 128 0) (replicate 128 0) (replicate 128 0) (replicate 128 (pos 0)) (replicate 128 Other)

-- ---- what is held of any entries, whatever their bytes are: an offset or a size over 2^63 - 1 is held at 2^63

abbrev pub held_start : Entry → ℕ
held_start e = (held_of e).offset.magnitude

abbrev pub held_extent : Entry → ℕ
held_extent e = (held_of e).size.magnitude

abbrev pub held_role : Entry → Role
held_role e = role_of (view_of (held_of e))

unfoldable pub held_sets : List Entry → Sets
held_sets ds = sets_by held_start held_extent held_role ds

-- ---- the directory of these numbers, with the entries' texts

unfoldable pub directory_with : Sets → List Entry → Directory
directory_with sets ds =
    record {
      entries = sets.entries;
      types = sets.types;
      names = padded 3584 0 (join (map name_of ds));
      filenames = padded 7936 0 (join (map filename_of ds));
      offsets = sets.offsets;
      sizes = sets.sizes;
      counts = sets.counts;
      record_sizes = sets.record_sizes;
      ranks = ranks_by sets.offsets sets.sizes sets.entries;
    }
