-- `ambrothel::ambrothel_field_at` meets its contract.
-- Assumes nothing.
use mathlib.Core.Path.{ap}
use native.Mathlib.Omega.{arith}
use Rattle.words.specs.Words.{field_words}
use Rattle.writing.proofs.Puts.{spelled}
use Rattle.words.proofs.Lent.{one_short, one_written}
use Rattle.words.proofs.Lengths.{field_seven}
use Rattle.ambrothel.proofs.ambrothel_field_at.Goals as goal

pub returns-then-words-lt7 : goal.returns-then-words-lt7
returns-then-words-lt7 c = one_short (rw field_seven (omega arith))

pub returns : goal.returns
returns c = one_written (spelled (ap field_words c.field_at.ensures) c.put_field.ensures) (rw field_seven (omega arith))
