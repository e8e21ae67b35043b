-- `words::put_field` meets its contract.
-- Assumes nothing.
use native.Mathlib.Omega.{arith}
use Rattle.layout.specs.Answers.{field_answer_is}
use Rattle.writing.proofs.Puts.{then, at_most, spelled}
use Rattle.words.proofs.AnswerWords.{field-words}
use Rattle.words.proofs.Lengths.{field_seven}
use Rattle.words.proofs.put_field.Goals as goal

pub returns : goal.returns
returns c =
    let put = spelled (field-words c.args.answer _ c.map_or-words.ensures) (then c.put_verdict-next.ensures c.put_words.ensures) in
    at_most 7 put (omega (arith, field_seven (field_answer_is c.args.answer)))
