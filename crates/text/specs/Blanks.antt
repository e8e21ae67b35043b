-- Blanks (document 01, "Header text": a spare is N blanks and byte 10): the test of the search for the first byte that is none.
-- Assumes nothing.
use Rattle.std.specs.Prelude.{ℕ, Bool, not, List, eqb}
use Rattle.layout.specs.Bytes.{byte_at}

-- the byte at a place is not a blank
unfoldable pub not_blank : List ℕ → ℕ → Bool
not_blank b i = not (eqb (byte_at b i) 32)
