-- `placement::follows` meets its contract.
-- Assumes nothing.
use Prim.Native.Nat.{◌-◌}
use native.Mathlib.Omega.{arith}
use borrow.Author.Tests.{leb-true}
use Rattle.placement.proofs.follows.Goals as goal

pub returns : goal.returns
returns c = λ e. let args = c.args in (λ _. c.if-offset-end.false, omega (arith, leb-true args.size (args.length - args.end) e))
