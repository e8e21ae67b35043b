-- A search for a byte that fails a test, and one that passed over good bytes in blocks.
-- Assumes nothing.
use Rattle.std.specs.Prelude.{ℕ, ◌-◌, ◌≤◌, Bool, not, List, ◌≡◌}
use Rattle.layout.specs.Bytes.{byte_at}
use Rattle.layout.specs.Search.{find}

-- the byte at a place does not pass the test
unfoldable pub fails : (ℕ → Bool) → List ℕ → ℕ → Bool
fails test b i = not (test (byte_at b i))

-- r lies in from..to, and the search of from..to finds what it finds from r on
pub record Skipped (t : ℕ → Bool) (from to r : ℕ) : Type 0 where
  pub low : from ≤ r
  pub high : r ≤ to
  pub left : find t from (to - from) ≡ find t r (to - r)
