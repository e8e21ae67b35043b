-- `octets::unsigned` meets its contract. Assumes nothing.
use Prim.Native.Nat.{◌+◌, ◌<◌}
use mathlib.Core.Path.{◌≡◌, refl, ◌∙◌}
use native.Mathlib.Omega.{arith}
use borrow.Author.Rules.{rules}
use Rattle.layout.specs.Bytes.{byte_at, unsigned_at}
use Rattle.octets.proofs.Digits.{next-lt, next-is, room, lent_byte}
use Rattle.octets.proofs.unsigned.Goals as goal

pub loop-byte-init : goal.loop-byte-init
unfolding unsigned_at
loop-byte-init c = (omega arith, refl)

pub overflow_mul-v : goal.overflow_mul-v
overflow_mul-v c = let l = c.loop-byte in record { fits = omega (arith, room l.v l.byte-index l.invariant.0 (omega arith)) }

pub overflow_add-v : goal.overflow_add-v
overflow_add-v c =
    let l = c.loop-byte in
    let byte : c.from.result < 256 = search rules in
    record { fits = omega (arith, room l.v l.byte-index l.invariant.0 (omega arith)) }

pub loop-byte-preserved : goal.loop-byte-preserved
loop-byte-preserved c =
    let l = c.loop-byte in
    let i = l.byte-index in
    let is : c.from.result ≡ byte_at c.args.p.now (c.args.at + i) = c.from.ensures ∙ lent_byte c.args.p.now c.args.at c.args.width i (omega arith) in
    (next-lt l.v _ i l.invariant.0 (search rules), rw is (next-is _ _ i l.v l.invariant.1))
