use Prim.Native.Nat.{◌-◌}
use mathlib.Core.Path.{◌≡◌}
use Rattle.layout.specs.Search.{first, some}
use Rattle.placement.specs.Sets.{overlaps_at, rule13_by}
use Rattle.placement.proofs.Sets.{Lower}
use Rattle.placement.proofs.Extents.first_overlapping.Given as goal

abbrev pub invariant-loop-j : goal.invariant-loop-j
invariant-loop-j l = let shares = overlaps_at l.self.offsets.now l.self.sizes.now l.i in some shares 0 l.i ≡ some shares l.j (l.i - l.j)

abbrev pub invariant-loop-i : goal.invariant-loop-i
invariant-loop-i l =
    let rule = rule13_by l.self.offsets.now l.self.sizes.now in
    (first rule 0 (l.self.entries - 0) ≡ first rule l.i (l.self.entries - l.i)) × Lower l.self.offsets.now l.self.sizes.now l.i l.low l.high
