-- `words::rooms::put_part` meets its contract.
-- Assumes nothing.
use native.Mathlib.Omega.{arith}
use Rattle.words.proofs.Lent.{first_short, second_short, both_written}
use Rattle.words.proofs.rooms.put_part.Goals as goal

pub returns-then-words-lt1 : goal.returns-then-words-lt1
returns-then-words-lt1 c = first_short (omega arith)

pub returns-then-bytes-part : goal.returns-then-bytes-part
returns-then-bytes-part c = second_short (omega arith) (omega arith)

pub returns : goal.returns
returns c = both_written c.put_words.ensures c.put_text.ensures (omega arith) (omega arith)
