-- `writing::put_digits` meets its contract.
-- Assumes nothing.
use Prim.Native.Nat.{◌+◌, ◌/◌, ◌%◌}
use mathlib.Core.Path.{ap}
use mathlib.Core.List.{[], ◌∷◌}
use native.Mathlib.Omega.{arith}
use lib.ListN.{length, length-append}
use Rattle.layout.specs.Listing.{decimal}
use Rattle.writing.proofs.Numbers.{one-digit, last-digit, put_one_digit, put_last_digit}
use Rattle.writing.proofs.+put_digits.Goals as goal

pub put_byte-requires : goal.put_byte-requires
put_byte-requires t c = omega (arith, ap length (one-digit c.args.number c.if-number-lt10.true))

pub returns-then-number-lt10 : goal.returns-then-number-lt10
returns-then-number-lt10 t c = put_one_digit c.args.number c.if-number-lt10.true c.put_byte.ensures

pub put_digits-next-requires : goal.put_digits-next-requires
put_digits-next-requires t c =
    let n = c.args.number in
    (omega arith, omega (arith, ap length (last-digit n c.if-number-lt10.false), length-append (decimal (n / 10)) ((48 + n % 10) ∷ [])))

pub put_byte-requires-2 : goal.put_byte-requires-2
put_byte-requires-2 t c =
    let n = c.args.number in
    omega (arith, c.put_digits-next.ensures.next, ap length (last-digit n c.if-number-lt10.false), length-append (decimal (n / 10)) ((48 + n % 10) ∷ []))

pub returns : goal.returns
returns t c = put_last_digit c.args.number c.if-number-lt10.false c.ranges.number.fits c.put_digits-next.ensures c.put_byte-2.ensures
