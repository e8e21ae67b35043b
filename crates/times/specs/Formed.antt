-- A text as the code tests, reads and writes it: the lowest and the highest byte at each place, names as numbers.
-- Assumes nothing.
use Rattle.std.specs.Prelude.{ℕ, ◌+◌, ◌*◌, Bool, not, List, eqb}
use Rattle.layout.specs.Bytes.{bytes, byte_at, within}
use Rattle.layout.specs.Search.{some, find}
use Rattle.times.specs.Times.{month_name}

unfoldable pub lowest : List ℕ
lowest = bytes "00-AAA-0000 00:00:00.000000"

unfoldable pub highest : List ℕ
highest = bytes "99-ZZZ-9999 99:99:99.999999"

-- the byte at a place is below the lowest or above the highest
unfoldable pub outside : List ℕ → ℕ → Bool
outside t k = not (within (byte_at lowest k) (byte_at highest k) (byte_at t k))

unfoldable pub formed : List ℕ → Bool
formed t = not (some (outside t) 0 27)

-- three letters as a number, the first in the lowest byte
unfoldable pub name_number : List ℕ → ℕ
name_number name = byte_at name 0 + 256 * byte_at name 1 + 65536 * byte_at name 2

unfoldable pub is_numbered : ℕ → ℕ → Bool
is_numbered n m = eqb n (name_number (month_name m))

-- the month that has this number for its name, or 13
unfoldable pub month_numbered : ℕ → ℕ
month_numbered n = find (is_numbered n) 1 12
