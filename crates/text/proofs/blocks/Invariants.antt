use Prim.Native.Nat.{◌-◌}
use Rattle.text.specs.Runs.{fails, Skipped}
use Rattle.text.proofs.blocks.Given as goal

abbrev pub invariant-loop-i : goal.invariant-loop-i
invariant-loop-i g l = Skipped (fails g.C.ByteClass.test l.p) l.from l.to l.i

abbrev pub decreases-loop-i : goal.decreases-loop-i
decreases-loop-i g l = l.to - l.i
