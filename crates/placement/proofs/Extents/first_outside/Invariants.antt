use mathlib.Core.Path.{◌≡◌}
use Prim.Native.Nat.{◌-◌}
use Rattle.layout.specs.Search.{first}
use Rattle.placement.specs.Sets.{rule12_by}
use Rattle.placement.proofs.Extents.first_outside.Given as goal

abbrev pub invariant-loop-i : goal.invariant-loop-i
invariant-loop-i l =
    let rule = rule12_by l.self.offsets.now l.self.sizes.now l.headers_end l.length in
    first rule 0 (l.self.entries - 0) ≡ first rule l.i (l.self.entries - l.i)
