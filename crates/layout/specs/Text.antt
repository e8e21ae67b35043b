-- Header text (document 01, "Header text"): the notation qN, c, sN and sA.B, named lines and spares, and what a value answers.
-- Assumes nothing.
use Rattle.std.specs.Prelude.{ℕ, ◌+◌, ◌*◌, ◌-◌, Bool, false, cond, ◌&&◌, ◌||◌, not, List, [], ◌∷◌, ◌++◌, eqb, ℤ, pos, neg_ℤ, length, replicate}
use Prim.Native.String.{String}
use lib.Text.{eqt}
use Rattle.layout.specs.Bytes.{bytes, part, within, member}

-- ---- what a byte may be

pub data Class : Type 0 where
  exactly : ℕ → Class  -- this byte
  plain : Class  -- a byte of q or c: 32 to 126, never 34
  sign : Class  -- + or -
  digit : Class  -- 0 to 9
  among : List ℕ → Class  -- one of these

unfoldable pub fits : Class → ℕ → Bool
fits (exactly y) x = eqb x y
fits plain x = within 32 126 x && not (eqb x 34)
fits sign x = eqb x 43 || eqb x 45
fits digit x = within 48 57 x
fits (among ys) x = member x ys

-- ---- values and lines

pub data Kind : Type 0 where
  q : ℕ → Kind  -- qN: a quote, N bytes, a quote
  c : Kind  -- one byte
  one_of : String → Kind  -- c, one of these
  s : ℕ → Kind  -- sN: a sign and N digits
  s_ab : ℕ → ℕ → Kind  -- sA.B: a sign, A digits, a point, B digits

pub data Line : Type 0 where
  named : String → Kind → String → Line  -- the keyword, the value, any unit
  spare : ℕ → Line  -- N blanks

abbrev pub literal : List ℕ → List Class
literal [] = []
literal (x ∷ xs) = exactly x ∷ literal xs

unfoldable pub value_classes : Kind → List Class
value_classes (q n) = exactly 34 ∷ (replicate n plain ++ exactly 34 ∷ [])
value_classes c = plain ∷ []
value_classes (one_of t) = among (bytes t) ∷ []
value_classes (s n) = sign ∷ replicate n digit
value_classes (s_ab a b) = sign ∷ (replicate a digit ++ exactly 46 ∷ replicate b digit)

-- a named line is the keyword, =, the value, any unit, and byte 10; a spare is N blanks and byte 10
unfoldable pub line_classes : Line → List Class
line_classes (named k v u) = literal (bytes k) ++ exactly 61 ∷ (value_classes v ++ (literal (bytes u) ++ exactly 10 ∷ []))
line_classes (spare n) = replicate n (exactly 32) ++ exactly 10 ∷ []

-- what each byte of a header may be, line after line
unfoldable pub layout : List Line → List Class
layout [] = []
layout (l ∷ ls) = line_classes l ++ layout ls

-- where each of these lines begins, the first at a place
unfoldable pub starts_of : ℕ → List Line → List ℕ
starts_of at [] = []
starts_of at (l ∷ ls) = at ∷ starts_of (at + length (line_classes l)) ls

-- ---- where a value stands

-- the bytes that a value answers: of q those between the quotes, of a number the sign too
unfoldable pub value_width : Kind → ℕ
value_width (q n) = n
value_width c = 1
value_width (one_of t) = 1
value_width (s n) = 1 + n
value_width (s_ab a b) = 2 + a + b

-- the quote before them
unfoldable pub quote_width : Kind → ℕ
quote_width (q n) = 1
quote_width c = 0
quote_width (one_of t) = 0
quote_width (s n) = 0
quote_width (s_ab a b) = 0

-- where the value of a keyword's line begins, from the first of these lines on
unfoldable pub place_of : List Line → String → ℕ
place_of [] key = 0
place_of (named k v u ∷ ls) key = cond (eqt key k) (length (bytes k) + 1 + quote_width v) (length (line_classes (named k v u)) + place_of ls key)
place_of (spare n ∷ ls) key = n + 1 + place_of ls key

unfoldable pub width_of : List Line → String → ℕ
width_of [] key = 0
width_of (named k v u ∷ ls) key = cond (eqt key k) (value_width v) (width_of ls key)
width_of (spare n ∷ ls) key = width_of ls key

-- the bytes of the value of a keyword's line, in a header that these lines lay out
unfoldable pub value_of : List Line → List ℕ → String → List ℕ
value_of ls b key = part b (place_of ls key) (width_of ls key)

-- ---- numbers

-- a sign and a magnitude, as they stand
pub record Number : Type 0 where
  pub minus : Bool
  pub magnitude : ℕ

-- digits, with the point passed over: so sA.B is in units of its last digit. A blank, as spares have it, counts 0.
unfoldable pub digits : ℕ → List ℕ → ℕ
digits sofar [] = sofar
digits sofar (x ∷ xs) = digits (cond (eqb x 46) sofar (sofar * 10 + (x - 48))) xs

unfoldable pub number_of : List ℕ → Number
number_of [] = record { minus = false; magnitude = 0 }
number_of (x ∷ xs) = record { minus = eqb x 45; magnitude = digits 0 xs }

-- the value; minus zero is zero
unfoldable pub whole : Number → ℤ
whole n = cond n.minus (neg_ℤ (pos n.magnitude)) (pos n.magnitude)
