-- Fields and points (document 01, "Fields and points"), with refusals 19, 20 and 21.
-- Assumes nothing.
use Rattle.std.specs.Prelude.{ℕ, ◌+◌, Bool, List, [], ◌∷◌, leb, ℤ, pos, neg_ℤ, Float, length, get_or}
use Rattle.std.specs.Float.{binary32, binary64}
use Rattle.std.specs.Float.Ieee.{of_bits, of_int, div}
use Rattle.layout.specs.Bytes.{unsigned_at, signed_at, within}
use Rattle.layout.specs.Answer.{Answer, need, Reply, ◌or_else◌, ◌else◌, ◌before◌}
use Rattle.layout.specs.Entries.{within_z, directory, at}
use Rattle.layout.specs.States.{states_of}
use Rattle.layout.specs.Records.{record_part, record_refusal}

-- ---- what a field answers

-- a whole number, a single float, a double float or a time; of a float the IEEE value and its bits
pub data Value : Type 0 where
  integer : ℤ → Value
  single : Float → ℕ → Value
  double : Float → ℕ → Value
  time : ℤ → ℕ → ℕ → Value  -- days from 1 January 2000, seconds, microseconds

-- how a kind is written; the number in a whole one is its bytes
pub data Shape : Type 0 where
  unknown : Shape
  signed : ℕ → Shape
  unsigned : ℕ → Shape
  float : Shape
  long_float : Shape
  mjd : Shape

-- 1 sc, 2 uc, 3 ss, 4 us, 5 sl, 6 ul, 7 fl, 8 do, 9 mjd
unfoldable pub shape_of : ℕ → Shape
shape_of kind = get_or (unknown ∷ signed 1 ∷ unsigned 1 ∷ signed 2 ∷ unsigned 2 ∷ signed 4 ∷ unsigned 4 ∷ float ∷ long_float ∷ mjd ∷ []) kind unknown

unfoldable pub bytes_of : Shape → ℕ
bytes_of unknown = 0
bytes_of (signed w) = w
bytes_of (unsigned w) = w
bytes_of float = 4
bytes_of long_float = 8
bytes_of mjd = 12

unfoldable pub value_at : List ℕ → ℕ → Shape → Value
value_at r off unknown = integer (pos 0)
value_at r off (signed w) = integer (signed_at r off w)
value_at r off (unsigned w) = integer (pos (unsigned_at r off w))
value_at r off float = single (of_bits binary32 (unsigned_at r off 4)) (unsigned_at r off 4)
value_at r off long_float = double (of_bits binary64 (unsigned_at r off 8)) (unsigned_at r off 8)
value_at r off mjd = time (signed_at r off 4) (unsigned_at r (off + 4) 4) (unsigned_at r (off + 8) 4)

-- ---- fields

-- record j of entry i
unfoldable pub record_of : List ℕ → ℕ → ℕ → List ℕ
record_of b i j = record_part b (states_of b (directory b)) (at (directory b) i) j

-- 20: the field passes the record's end. `r` is the record and `i` its entry
unfoldable pub ends_in : List ℕ → ℕ → ℕ → ℕ → Answer
ends_in r i off w = need (leb (off + w) (length r)) 20 off i

-- 19: field kind unknown
unfoldable pub field_refusal : List ℕ → ℕ → ℕ → ℕ → Answer
field_refusal r i off kind = need (within 1 9 kind) 19 0 i or_else ends_in r i off (bytes_of (shape_of kind))

-- the field of a kind at an offset of a record
unfoldable pub field_in : List ℕ → ℕ → ℕ → ℕ → Reply Value
field_in r i off kind = field_refusal r i off kind else value_at r off (shape_of kind)

-- the field of a kind at an offset of record j of entry i
unfoldable pub field_reply : List ℕ → ℕ → ℕ → ℕ → ℕ → Reply Value
field_reply b i j off kind = record_refusal b i j before field_in (record_of b i j) i off kind

-- ---- points

pub record Position : Type 0 where
  pub latitude : Float
  pub longitude : Float
  pub altitude : Float

-- a whole number as f64, divided once, to nearest, ties to even
unfoldable pub quotient : ℤ → ℕ → Float
quotient v d = div binary64 (of_int binary64 v) (of_int binary64 (pos d))

-- sl in 10^-6 degree; ul in 10^-2 m
unfoldable pub degrees : ℤ → Float
degrees v = quotient v 1000000

unfoldable pub metres : ℕ → Float
metres v = quotient (pos v) 100

-- an angle in 10^-6 degree lies within these limits, either way
unfoldable pub in_limits : ℕ → ℤ → Bool
in_limits most v = within_z (neg_ℤ (pos most)) (pos most) v

unfoldable pub position_at : List ℕ → ℕ → ℕ → ℕ → Position
position_at r lat lon alt =
    record { latitude = degrees (signed_at r lat 4); longitude = degrees (signed_at r lon 4); altitude = metres (unsigned_at r alt 4) }

-- 20 for all three before 21: latitude outside ±90,000,000, else longitude outside ±180,000,000. The first of the three in this order counts,
-- not the lowest place
unfoldable pub point_refusal : List ℕ → ℕ → ℕ → ℕ → ℕ → Answer
point_refusal r i lat lon alt =
    ends_in r i lat 4
    or_else ends_in r i lon 4
    or_else ends_in r i alt 4
    or_else need (in_limits 90000000 (signed_at r lat 4)) 21 lat i
    or_else need (in_limits 180000000 (signed_at r lon 4)) 21 lon i

-- the point at three offsets of a record
unfoldable pub point_in : List ℕ → ℕ → ℕ → ℕ → ℕ → Reply Position
point_in r i lat lon alt = point_refusal r i lat lon alt else position_at r lat lon alt

-- the point at three offsets of record j of entry i
unfoldable pub point_reply : List ℕ → ℕ → ℕ → ℕ → ℕ → ℕ → Reply Position
point_reply b i j lat lon alt = record_refusal b i j before point_in (record_of b i j) i lat lon alt
