-- A header's number as the code holds it: layout's number with its magnitude held at 2^63, which then stands for everything above 2^63 - 1
-- (document 01, rules 4 and 9, only ask whether a magnitude is over 2^63 - 1).
-- Assumes nothing.
use Rattle.std.specs.Prelude.{ℕ, ◌+◌, ◌*◌, ◌-◌, ◌≤◌, ◌<◌, min, cond, List, T, eqb, ℤ, pos, neg_ℤ}
use Rattle.layout.specs.Bytes.{part, byte_at}
use Rattle.layout.specs.Text.{digit, fits, number_of}
use Rattle.text.specs.declared.Number.{Number}

-- the n bytes from a place on are digits
abbrev pub AllDigits : List ℕ → ℕ → ℕ → Type 0
AllDigits b at n = (k : ℕ) → at ≤ k → k < at + n → T (fits digit (byte_at b k))

unfoldable pub capped : ℕ → ℕ
capped n = min n 9223372036854775808

-- the number so far and one byte more, as layout's `digits` takes it
unfoldable pub with_byte : ℕ → ℕ → ℕ
with_byte sofar x = cond (eqb x 46) sofar (sofar * 10 + (x - 48))

-- the number that the width bytes from a place on are: a sign and digits
unfoldable pub number_in : List ℕ → ℕ → ℕ → Number
number_in b at width = record { minus = (number_of (part b at width)).minus; magnitude = capped (number_of (part b at width)).magnitude }

-- the value; minus zero is zero
unfoldable pub whole_in : Number → ℤ
whole_in n = cond n.minus (neg_ℤ (pos n.magnitude)) (pos n.magnitude)
