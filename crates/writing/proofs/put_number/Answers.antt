-- `writing::put_number` meets its contract: a number below 2^64 has at most 20 digits.
-- Assumes nothing.
use native.Mathlib.Omega.{arith}
use Rattle.writing.proofs.Puts.{then}
use Rattle.writing.proofs.Numbers.{digits_64}
use Rattle.writing.proofs.put_number.Goals as goal

pub put_digits-next-requires : goal.put_digits-next-requires
put_digits-next-requires c = omega (arith, digits_64 c.args.number c.ranges.number.fits)

pub returns : goal.returns
returns c = then c.put_digits-next.ensures c.put_byte.ensures
