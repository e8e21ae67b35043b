use Prim.Native.Nat.{◌≤◌}
use Rattle.placement.proofs.Laid.{Laid}
use Rattle.placement.proofs.Extents.are_joined.Given as goal

abbrev pub invariant-loop-i : goal.invariant-loop-i
invariant-loop-i l = (l.headers_end ≤ l.end) × (l.end ≤ l.length) × Laid l.self.offsets.now l.self.sizes.now l.i l.headers_end l.end
