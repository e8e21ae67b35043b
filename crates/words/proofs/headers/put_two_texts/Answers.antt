-- `words::headers::put_two_texts` meets its contract.
-- Assumes nothing.
use Rattle.writing.proofs.Puts.{then}
use Rattle.words.proofs.headers.put_two_texts.Goals as goal

pub returns : goal.returns
returns c = then c.put_text-next.ensures c.put_text.ensures
