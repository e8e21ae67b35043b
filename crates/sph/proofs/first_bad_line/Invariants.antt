use Prim.Native.Nat.{◌-◌}
use Rattle.sph.proofs.BadLines.{Reached}
use Rattle.sph.proofs.first_bad_line.Given as goal

abbrev pub invariant-loop-start : goal.invariant-loop-start
invariant-loop-start l = Reached l.p l.from l.to l.start

abbrev pub decreases-loop-start : goal.decreases-loop-start
decreases-loop-start l = l.to - l.start
