-- `writing::put_signed` meets its contract: a minus and the magnitude, or the magnitude alone.
-- Assumes nothing.
use mathlib.Core.Path.{◌∙◌, ap}
use native.Mathlib.Omega.{arith}
use lib.IntN.{nat_abs}
use lib.ListN.{length}
use mir.Facts.{to_z-of_z}
use Rattle.writing.proofs.Puts.{then, at_most, spelled}
use Rattle.writing.proofs.Signs.{minus, no_minus}
use Rattle.writing.proofs.put_signed.Goals as goal

pub returns-then-number-lt0 : goal.returns-then-number-lt0
returns-then-number-lt0 c =
    let kept = to_z-of_z c.ranges.number in
    let is = c.unsigned_abs.ensures.value ∙ ap nat_abs kept in
    spelled (minus c.args.number _ c.args.end is (rw kept at c.if-number-lt0.true)) (then c.put_byte-next.ensures c.put_number.ensures)

pub returns : goal.returns
returns c =
    let kept = to_z-of_z c.ranges.number in
    let is = c.unsigned_abs-2.ensures.value ∙ ap nat_abs kept in
    let text = no_minus c.args.number _ c.args.end is (rw kept at c.if-number-lt0.false) in
    at_most 22 (spelled text c.put_number-2.ensures) (omega (arith, c.put_number-2.ensures.narrow, ap length text))
