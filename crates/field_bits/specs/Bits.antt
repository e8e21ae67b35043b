-- A field of kinds 1 to 7 in 32 bits (document 02, order 8).
-- Assumes nothing.
use Rattle.std.specs.Prelude.{ℕ, ◌+◌, ◌*◌, ◌-◌, List, ℤ, pos, negsuc}
use Rattle.layout.specs.Bytes.{part}
use Rattle.layout.specs.Fields.{Value, integer, single, double, time, shape_of, value_at}

-- a whole number as two's complement in 32 bits
unfoldable pub complement : ℤ → ℕ
complement (pos n) = n
complement (negsuc n) = 4294967295 - n

-- signed kinds and floats give the two's complement or IEEE bits in 32 bits; doubles and times are of kinds 8 and 9, of which there is no column
unfoldable pub bits_of : Value → ℕ
bits_of (integer v) = complement v
bits_of (single v bits) = bits
bits_of (double v bits) = 0
bits_of (time days seconds microseconds) = 0

-- of the field in record k of those of one size that begin at a place
unfoldable pub field_bits : (b : List ℕ) (place size off kind k : ℕ) → ℕ
field_bits b place size off kind k = bits_of (value_at (part b (place + k * size) size) off (shape_of kind))
