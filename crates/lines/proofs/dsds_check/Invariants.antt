use Prim.Native.Nat.{◌-◌}
use mathlib.Core.Path.{◌≡◌}
use Rattle.layout.specs.Search.{first}
use Rattle.lines.specs.Table.{rule8_from}
use Rattle.lines.proofs.dsds_check.Given as goal

abbrev pub invariant-loop-i : goal.invariant-loop-i
invariant-loop-i l = first (rule8_from l.p l.from) 0 l.n ≡ first (rule8_from l.p l.from) l.i (l.n - l.i)
