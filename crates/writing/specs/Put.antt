-- What a writer promises: the text that it puts into a buffer, and that it leaves all else as it was.
-- Assumes nothing.
use Rattle.std.specs.Prelude.{ℕ, ◌+◌, ◌≤◌, ◌≡◌, List, length, take, drop}
use Rattle.std.proofs.lemmas.List.Edits.{sets}

-- the text, of at most `width` bytes, stored from the place `at` on; `r` is the place behind it
pub record Put {A : Type 0} (width : ℕ) (text old new : List A) (at r : ℕ) : Type 0 where
  pub next : r ≡ at + length text
  pub written : new ≡ sets old at text
  pub narrow : length text ≤ width

-- the text fills the first `r` bytes, of which there are at most `width`, and those behind them are as they were
pub record Written {A : Type 0} (width : ℕ) (text old new : List A) (r : ℕ) : Type 0 where
  pub count : r ≡ length text
  pub first : take r new ≡ text
  pub behind : drop r new ≡ drop r old
  pub narrow : r ≤ width
