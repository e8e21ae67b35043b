-- `ambrothel::ambrothel_sph_place` meets its contract.
-- Assumes nothing.
use mathlib.Core.Path.{ap}
use native.Mathlib.Omega.{arith}
use Rattle.words.specs.Words.{place_words}
use Rattle.writing.proofs.Puts.{spelled}
use Rattle.words.proofs.Lent.{one_short, one_written}
use Rattle.words.proofs.Lengths.{place_five}
use Rattle.ambrothel.proofs.ambrothel_sph_place.Goals as goal

pub returns-then-words-lt5 : goal.returns-then-words-lt5
returns-then-words-lt5 c = one_short (rw place_five (omega arith))

pub returns : goal.returns
returns c = one_written (spelled (ap place_words c.sph_place.ensures) c.put_place.ensures) (rw place_five (omega arith))
