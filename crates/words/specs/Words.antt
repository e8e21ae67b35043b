-- The answers as a host gets them: words of 64 bits, and the doubles of a point. Every list has one length, whatever is answered.
-- Assumes nothing.
use Rattle.std.specs.Prelude.{ℕ, ◌-◌, List, [], ◌∷◌, ℤ, pos, negsuc, Float}
use Rattle.std.specs.Float.{binary64}
use Rattle.std.specs.Float.Ieee.{of_bits}
use Rattle.layout.specs.Answer.{Answer, accepted, refused, Reply, refusal, is}
use Rattle.layout.specs.Records.{Span}
use Rattle.layout.specs.Fields.{Value, integer, single, double, time, Position}

-- a number with a sign as two's complement of 64 bits
unfoldable pub word : ℤ → ℕ
word (pos n) = n
word (negsuc n) = 18446744073709551615 - n

-- number, place and entry, or three zeros
unfoldable pub verdict_words : Answer → List ℕ
verdict_words accepted = 0 ∷ 0 ∷ 0 ∷ []
verdict_words (refused n p e) = n ∷ p ∷ e ∷ []

-- behind those, place and length
unfoldable pub place_words : Reply Span → List ℕ
place_words (refusal n p e) = n ∷ p ∷ e ∷ 0 ∷ 0 ∷ []
place_words (is s) = 0 ∷ 0 ∷ 0 ∷ s.place ∷ s.length ∷ []

-- 1 a whole number, 2 a single float's bits, 3 a double float's bits, 4 a time
unfoldable pub value_words : Value → List ℕ
value_words (integer v) = 1 ∷ word v ∷ 0 ∷ 0 ∷ []
value_words (single v bits) = 2 ∷ bits ∷ 0 ∷ 0 ∷ []
value_words (double v bits) = 3 ∷ bits ∷ 0 ∷ 0 ∷ []
value_words (time days seconds microseconds) = 4 ∷ word days ∷ seconds ∷ microseconds ∷ []

unfoldable pub field_words : Reply Value → List ℕ
field_words (refusal n p e) = n ∷ p ∷ e ∷ 0 ∷ 0 ∷ 0 ∷ 0 ∷ []
field_words (is v) = 0 ∷ 0 ∷ 0 ∷ value_words v

unfoldable pub point_words : Reply Position → List ℕ
point_words (refusal n p e) = n ∷ p ∷ e ∷ []
point_words (is x) = 0 ∷ 0 ∷ 0 ∷ []

-- latitude, longitude and altitude, or three zeros
abbrev pub zero_float : Float
zero_float = of_bits binary64 0

unfoldable pub point_doubles : Reply Position → List Float
point_doubles (refusal n p e) = zero_float ∷ zero_float ∷ zero_float ∷ []
point_doubles (is x) = x.latitude ∷ x.longitude ∷ x.altitude ∷ []
