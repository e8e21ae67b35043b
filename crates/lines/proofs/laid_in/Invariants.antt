use Prim.Native.Nat.{◌-◌}
use mathlib.Core.Bool.{not}
use mathlib.Core.Path.{◌≡◌}
use Rattle.layout.specs.Search.{some}
use Rattle.lines.specs.Ranges.{misplaced}
use Rattle.lines.proofs.laid_in.Given as goal

abbrev pub invariant-loop-i : goal.invariant-loop-i
invariant-loop-i g l = l.all ≡ not (some (misplaced l.ranges.lows l.ranges.highs l.ranges.barred l.p) l.from (l.i - l.from))
