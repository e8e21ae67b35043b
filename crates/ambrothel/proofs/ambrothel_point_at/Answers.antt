-- `ambrothel::ambrothel_point_at` meets its contract.
-- Assumes nothing.
use mathlib.Core.Path.{ap}
use native.Mathlib.Omega.{arith}
use Rattle.words.specs.Words.{point_words, point_doubles}
use Rattle.writing.proofs.Puts.{spelled}
use Rattle.words.proofs.Lent.{first_short, second_short, both_written}
use Rattle.words.proofs.Lengths.{point_three, doubles_three}
use Rattle.ambrothel.proofs.ambrothel_point_at.Goals as goal

pub returns-then-words-lt3 : goal.returns-then-words-lt3
returns-then-words-lt3 c = first_short (rw point_three (omega arith))

pub returns-then-point-lt3 : goal.returns-then-point-lt3
returns-then-point-lt3 c = second_short (rw point_three (omega arith)) (rw doubles_three (omega arith))

pub returns : goal.returns
returns c = let asked = c.point_at-answer in
    both_written (spelled (ap point_words asked.ensures) c.put_point.ensures) (spelled (ap point_doubles asked.ensures) c.put_doubles.ensures) (rw point_three (omega arith)) (rw doubles_three (omega arith))
