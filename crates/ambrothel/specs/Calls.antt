-- What the two longest answers for a product `b`, and a column, leave in the rooms lent for them, and what is returned.
-- Assumes nothing.
use Rattle.std.specs.Prelude.{ℕ, cond, List, ◌≡◌}
use Rattle.layout.specs.Answer.{Reply}
use Rattle.layout.specs.Rules.{verdict}
use Rattle.layout.specs.Answers.{directory_for}
use Rattle.values.specs.Header.{header_for}
use Rattle.words.specs.Words.{verdict_words}
use Rattle.words.specs.Lent.{long_enough, OneRoom}
use Rattle.words.specs.Rooms.{DirectoryRooms, HeaderRooms}
use Rattle.column.specs.Column.{refusal_of, column_in}

-- verdict and directory
abbrev pub DirectoryCall : (b words words' texts texts' : List ℕ) (r : ℕ) → Type 0
DirectoryCall b = DirectoryRooms (verdict b) (directory_for (verdict b) b)

-- verdict and main header
abbrev pub HeaderCall : (b words words' texts texts' : List ℕ) (r : ℕ) → Type 0
HeaderCall b = HeaderRooms (verdict b) (header_for (verdict b) b)

-- the words of a column's refusal; and its values, but where the room for the words is too short
pub record ColumnCall (reply : Reply (List ℕ)) (words words' values values' : List ℕ) (r : ℕ) : Type 0 where
  pub refusal : OneRoom (verdict_words (refusal_of reply)) words words' r
  pub written : values' ≡ cond (long_enough words (verdict_words (refusal_of reply))) (column_in reply values) values
