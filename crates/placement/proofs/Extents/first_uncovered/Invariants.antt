use Prim.Native.Nat.{◌≤◌, ◌-◌}
use mathlib.Core.Path.{◌≡◌}
use Rattle.layout.specs.Search.{first}
use Rattle.placement.specs.Cover.{rule14_by}
use Rattle.placement.proofs.Extents.first_uncovered.Given as goal

abbrev pub invariant-loop-p : goal.invariant-loop-p
invariant-loop-p l =
    let rule = rule14_by l.self.offsets.now l.self.sizes.now l.self.entries in
    (l.from ≤ l.self.entries) × (first rule l.headers_end (l.length - l.headers_end) ≡ first rule l.p (l.length - l.p))

abbrev pub decreases-loop-p : goal.decreases-loop-p
decreases-loop-p l = l.length - l.p
