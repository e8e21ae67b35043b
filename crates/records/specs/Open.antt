-- What the search for a record goes by, and what it answers.
-- Assumes nothing.
use Rattle.std.specs.Prelude.{ℕ, List, ◌≡◌, ltb, length}
use Rattle.layout.specs.Answer.{accepted, need, Reply, ◌else◌}
use Rattle.layout.specs.Entries.{directory, at}
use Rattle.layout.specs.States.{states_of}
use Rattle.layout.specs.Records.{Span, lengths, record_at, record_length}
use Rattle.layout.specs.Rules.{verdict}
use Rattle.directory.specs.Numbers.{sets_of}
use Rattle.directory.specs.declared.Sets.{Sets}

-- an accepted product, and its directory's numbers
pub record Open (b : List ℕ) (sets : Sets) : Type 0 where
  pub accepts : verdict b ≡ accepted
  pub held : sets ≡ sets_of (directory b)

-- where record j of entry i of an accepted product stands, or refusal 18
unfoldable pub place_in : List ℕ → ℕ → ℕ → Reply Span
place_in b i j =
    need (ltb j (length (lengths (states_of b (directory b)) (at (directory b) i)))) 18 0 i
    else record { place = record_at (states_of b (directory b)) (at (directory b) i) j; length = record_length (states_of b (directory b)) (at (directory b) i) j }
