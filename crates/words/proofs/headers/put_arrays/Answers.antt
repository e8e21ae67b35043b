-- `words::headers::put_arrays` meets its contract.
-- Assumes nothing.
use Rattle.writing.proofs.Puts.{then}
use Rattle.words.proofs.headers.put_arrays.Goals as goal

pub returns : goal.returns
returns c = then c.put_words-placed.ensures (then c.put_words-sized.ensures c.put_words.ensures)
