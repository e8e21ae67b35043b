-- `octets::double` meets its contract: a NaN's pattern is told by its size. Assumes nothing.
use lib.Ieee.{binary64}
use Rattle.octets.proofs.Nan.{made, none}
use Rattle.octets.proofs.double.Goals as goal

pub float_from_bits-result : goal.float_from_bits-result
float_from_bits-result c = none binary64 _ c.if-bits-gt9218868437227405312.false

pub returns-then-bits-gt9218868437227405312 : goal.returns-then-bits-gt9218868437227405312
returns-then-bits-gt9218868437227405312 c = made binary64 _ c.if-bits-gt9218868437227405312.true
