-- `ambrothel::ambrothel_time_of_text` meets its contract.
-- Assumes nothing.
use mathlib.Core.Path.{ap}
use native.Mathlib.Omega.{arith}
use Rattle.time_words.specs.TimeWords.{time_words}
use Rattle.writing.proofs.Puts.{spelled}
use Rattle.words.proofs.Lent.{one_short, one_written}
use Rattle.time_words.proofs.Answers.{time_seven}
use Rattle.ambrothel.proofs.ambrothel_time_of_text.Goals as goal

pub returns-then-words-lt7 : goal.returns-then-words-lt7
returns-then-words-lt7 c = one_short (rw time_seven (omega arith))

pub returns : goal.returns
returns c = one_written (spelled (ap time_words c.time_of_text.ensures) c.put_time.ensures) (rw time_seven (omega arith))
