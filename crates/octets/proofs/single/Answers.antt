-- `octets::single` meets its contract: a NaN's pattern is told by its size. Assumes nothing.
use lib.Ieee.{binary32}
use Rattle.octets.proofs.Nan.{made, none}
use Rattle.octets.proofs.single.Goals as goal

pub float_from_bits-result : goal.float_from_bits-result
float_from_bits-result c = none binary32 _ c.if-bits-gt2139095040.false

pub returns-then-bits-gt2139095040 : goal.returns-then-bits-gt2139095040
returns-then-bits-gt2139095040 c = made binary32 _ c.if-bits-gt2139095040.true
