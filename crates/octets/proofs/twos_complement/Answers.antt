-- `octets::twos_complement` meets its contract. Assumes nothing.
use Prim.Native.Nat.{◌*◌, ◌-◌}
use mathlib.Core.Path.{◌≡◌}
use native.Mathlib.Omega.{arith}
use lib.IntN.{negsuc, ◌-ℤ◌}
use borrow.Author.Tests.{lt-ltb, le-ltb}
use mir.Syntax.{w64}
use mir.Val.{to_z, of_z}
use mir.Facts.{to_z_pos}
use Rattle.std.proofs.lemmas.Int.{ints}
use Rattle.layout.specs.Bytes.{twos_complement}
use Rattle.octets.proofs.twos_complement.Goals as goal

pub returns-then-v-half : goal.returns-then-v-half
unfolding twos_complement
returns-then-v-half c = let e = to_z_pos w64 {n = c.args.v} (omega arith) in (rw (lt-ltb _ _ c.if-v-half.true) e, rw e c.if-v-half.true)

pub returns-else-v-half : goal.returns-else-v-half
unfolding twos_complement
returns-else-v-half c =
    let v = c.args.v in
    let half = c.args.half in
    let e : to_z w64 (of_z w64 (to_z w64 v -ℤ to_z w64 (2 * half))) ≡ negsuc (2 * half - 1 - v) = omega (arith, ints) in
    (rw (le-ltb _ _ c.if-v-half.false) e, rw e (omega arith))
