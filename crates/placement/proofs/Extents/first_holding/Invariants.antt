use Prim.Native.Nat.{◌-◌}
use mathlib.Core.Path.{◌≡◌}
use Rattle.layout.specs.Search.{find}
use Rattle.placement.specs.Cover.{covers_at}
use Rattle.placement.proofs.Extents.first_holding.Given as goal

abbrev pub invariant-loop-i : goal.invariant-loop-i
invariant-loop-i l = let held = covers_at l.self.offsets.now l.self.sizes.now l.p in find held l.from (l.to - l.from) ≡ find held l.i (l.to - l.i)
