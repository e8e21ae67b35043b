-- The lines of the SPH before its DSDs (document 01, "Header text", last paragraph). Each test is over what follows, up to the DSDs.
-- Assumes nothing.
use Rattle.std.specs.Prelude.{ℕ, zero, suc, ◌-◌, Bool, true, false, cond, ◌&&◌, ◌||◌, List, [], ◌∷◌, eqb}
use Rattle.layout.specs.Bytes.{part, byte_at, within}
use Rattle.layout.specs.Text.{plain, fits}
use Rattle.layout.specs.Entries.{dsds_at}

-- all bytes of the SPH before the DSDs
unfoldable pub sph_lines : List ℕ → List ℕ
sph_lines b = part b 1247 (dsds_at b - 1247)

-- only byte 10 follows
unfoldable pub ended : List ℕ → Bool
ended [] = false
ended (x ∷ xs) = eqb x 10

-- blanks, and byte 10
unfoldable pub blanks : List ℕ → Bool
blanks [] = false
blanks (x ∷ xs) = eqb x 10 || (eqb x 32 && blanks xs)

-- bytes 32 to 126 without 34, and byte 10
unfoldable pub unquoted : List ℕ → Bool
unquoted [] = false
unquoted (x ∷ xs) = eqb x 10 || (fits plain x && unquoted xs)

-- the rest of a q of any length, and byte 10
unfoldable pub quoted : List ℕ → Bool
quoted [] = false
quoted (x ∷ xs) = let r = quoted xs in cond (eqb x 34) (ended xs) (fits plain x && r)

-- either a q of any length or one or more bytes 32 to 126 without 34; and byte 10
unfoldable pub value : List ℕ → Bool
value [] = false
value (x ∷ xs) = cond (eqb x 34) (quoted xs) (fits plain x && unquoted xs)

-- the rest of a keyword, A to Z, 0 to 9 and _; then = and a value
unfoldable pub keyword : List ℕ → Bool
keyword [] = false
keyword (x ∷ xs) = let r = keyword xs in cond (eqb x 61) (value xs) ((within 65 90 x || (within 48 57 x || eqb x 95)) && r)

-- a line: one or more blanks, or a keyword that begins with A to Z, = and a value; ended by byte 10
unfoldable pub line : List ℕ → Bool
line [] = false
line (x ∷ xs) = cond (eqb x 32) (blanks xs) (within 65 90 x && keyword xs)

-- a line begins at the first of these bytes, and behind each byte 10
unfoldable pub line_begins : List ℕ → ℕ → Bool
line_begins l zero = true
line_begins l (suc i) = eqb (byte_at l i) 10
