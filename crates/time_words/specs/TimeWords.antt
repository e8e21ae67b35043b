-- Times and their texts as a host gets them: 7 words of 64 bits for what a text says; 3 words and 27 bytes for the text of a time.
-- Assumes nothing.
use Rattle.std.specs.Prelude.{ℕ, List, [], ◌∷◌}
use Rattle.layout.specs.Answer.{need, none, Reply, refusal, is}
use Rattle.layout.specs.declared.Time.{Time}
use Rattle.times.specs.Times.{Said, not_given, given, valid_time, TextIs}
use Rattle.words.specs.Words.{word, verdict_words}
use Rattle.words.specs.Lent.{TwoRooms}

-- 1 a time, with days, seconds and microseconds; 2 not given
unfoldable pub said_words : Said → List ℕ
said_words (given t) = 1 ∷ word t.days ∷ t.seconds ∷ t.microseconds ∷ []
said_words not_given = 2 ∷ 0 ∷ 0 ∷ 0 ∷ []

-- behind number, place and entry, or three zeros
unfoldable pub time_words : Reply Said → List ℕ
time_words (refusal n p e) = n ∷ p ∷ e ∷ 0 ∷ 0 ∷ 0 ∷ 0 ∷ []
time_words (is s) = 0 ∷ 0 ∷ 0 ∷ said_words s

-- what the text of a time leaves in the two rooms lent for it, and what is returned
pub record TextRooms (t : Time) (words words' text text' : List ℕ) (r : ℕ) : Type 0 where
  pub bytes : List ℕ
  pub are : TextIs t bytes
  pub rooms : TwoRooms (verdict_words (need (valid_time t) 31 0 none)) words words' bytes text text' r
