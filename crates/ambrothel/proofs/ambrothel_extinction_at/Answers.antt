-- `ambrothel::ambrothel_extinction_at` meets its contract.
-- Assumes nothing.
use mathlib.Core.Path.{ap}
use native.Mathlib.Omega.{arith}
use Rattle.extinction_words.specs.PixelWords.{pixel_words, model_double}
use Rattle.writing.proofs.Puts.{spelled}
use Rattle.words.proofs.Lent.{first_short, second_short, both_written}
use Rattle.extinction_words.proofs.Answers.{pixel_eleven, model-one}
use Rattle.ambrothel.proofs.ambrothel_extinction_at.Goals as goal

pub returns-then-words-lt11 : goal.returns-then-words-lt11
returns-then-words-lt11 c = first_short (rw pixel_eleven (omega arith))

pub returns-then-model-lt1 : goal.returns-then-model-lt1
returns-then-model-lt1 c = second_short (rw pixel_eleven (omega arith)) (rw model-one (omega arith))

pub returns : goal.returns
returns c = let asked = c.pixel_at-answer in
    both_written (spelled (ap pixel_words asked.ensures) c.put_pixel.ensures) (spelled (ap model_double asked.ensures) c.put_model.ensures) (rw pixel_eleven (omega arith)) (rw model-one (omega arith))
