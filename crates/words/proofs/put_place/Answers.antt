-- `words::put_place` meets its contract.
-- Assumes nothing.
use Rattle.writing.proofs.Puts.{then, spelled}
use Rattle.words.proofs.AnswerWords.{place-words}
use Rattle.words.proofs.put_place.Goals as goal

pub returns : goal.returns
returns c =
    let words = rw c.unwrap_or-span.ensures at c.put_words.ensures in
    spelled (place-words c.args.answer) (then c.put_verdict-next.ensures words)
