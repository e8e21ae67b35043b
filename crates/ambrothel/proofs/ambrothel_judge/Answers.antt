-- `ambrothel::ambrothel_judge` meets its contract.
-- Assumes nothing.
use mathlib.Core.Path.{ap}
use native.Mathlib.Omega.{arith}
use Rattle.words.specs.Words.{verdict_words}
use Rattle.writing.proofs.Puts.{spelled}
use Rattle.words.proofs.Lent.{one_short, one_written}
use Rattle.words.proofs.Lengths.{verdict_three}
use Rattle.ambrothel.proofs.ambrothel_judge.Goals as goal

pub returns-then-words-lt3 : goal.returns-then-words-lt3
returns-then-words-lt3 c = one_short (rw verdict_three (omega arith))

pub returns : goal.returns
returns c = one_written (spelled (ap verdict_words c.judge.ensures) c.put_verdict.ensures) (rw verdict_three (omega arith))
