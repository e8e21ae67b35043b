use Prim.Native.Nat.{◌≤◌}
use mathlib.Core.List.{map}
use mathlib.Core.Path.{◌≡◌}
use lib.IntN.{pos}
use Rattle.layout.specs.Search.{find, count, upto}
use Rattle.layout.specs.Entries.{entries_from, non_empty_at}
use Rattle.layout.specs.Answers.{padded, type_of, count_of, record_size_of}
use Rattle.dsd.specs.declared.Role.TheVariants.{Other}
use Rattle.directory.specs.Numbers.{held_start, held_extent, held_role}
use Rattle.directory.specs.Checks.{over_at, unfit_at}
use Rattle.directory.proofs.Held.{of_entry}
use Rattle.directory.proofs.read_sets.Given as goal

abbrev pub invariant-loop-i : goal.invariant-loop-i
invariant-loop-i l =
    (l.within ≡ find (over_at (entries_from l.p l.from l.n)) 0 l.i)
    × (l.fitting ≡ find (unfit_at (entries_from l.p l.from l.n)) 0 l.i)
    × (l.counted ≤ l.i)
    × (l.counted ≡ count (non_empty_at (entries_from l.p l.from l.n)) 0 l.i)
    × (l.sets.types ≡ padded 128 0 (map (of_entry type_of 0 l.p l.from l.n) (upto 0 l.i)))
    × (l.sets.offsets ≡ padded 128 0 (map (of_entry held_start 0 l.p l.from l.n) (upto 0 l.i)))
    × (l.sets.sizes ≡ padded 128 0 (map (of_entry held_extent 0 l.p l.from l.n) (upto 0 l.i)))
    × (l.sets.counts ≡ padded 128 0 (map (of_entry count_of 0 l.p l.from l.n) (upto 0 l.i)))
    × (l.sets.record_sizes ≡ padded 128 (pos 0) (map (of_entry record_size_of (pos 0) l.p l.from l.n) (upto 0 l.i)))
    × (l.sets.roles ≡ padded 128 Other (map (of_entry held_role Other l.p l.from l.n) (upto 0 l.i)))
