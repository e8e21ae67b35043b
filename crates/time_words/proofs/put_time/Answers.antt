-- `time_words::put_time` meets its contract, by the cases of the answer.
-- Assumes nothing.
use mathlib.Core.Path.{◌≡◌, ◌∙◌, ap}
use native.Mathlib.Omega.{arith}
use mir.Syntax.{w32, w64}
use mir.Val.{to_z, of_z}
use Rattle.std.specs.Prelude.{Some, None, Ok}
use Rattle.writing.proofs.Puts.{then, at_most, spelled}
use Rattle.words.specs.Words.{word}
use Rattle.time_words.proofs.Answers.{refused_words, blank_words, given_words}
use borrow.Author.Rules.{rules}
use Rattle.time_words.proofs.put_time.Goals as goal

pub returns-in-Err : goal.returns-in-Err
returns-in-Err c = spelled (refused_words c.args.answer _ c.in-Err.is) (then c.put_refusal-next.ensures c.put_words.ensures)

pub returns-in-Ok-None : goal.returns-in-Ok-None
returns-in-Ok-None c =
    let none : c.args.answer ≡ Ok None = search rules in
    spelled (blank_words c.args.answer none) c.put_words-in-Ok-None.ensures

pub returns-in-Ok-Some : goal.returns-in-Ok-Some
returns-in-Ok-Some c =
    let d = c.in-Ok-Some.time.days in
    let some : c.args.answer ≡ Ok (Some c.in-Ok-Some.time) = search rules in
    let kept : to_z w64 (of_z w64 (to_z w32 (of_z w32 d))) ≡ d = search rules in
    let put = c.put_words-in-Ok-Some.ensures in
    spelled (given_words c.args.answer _ _ some (c.word_of-days.ensures ∙ ap word kept)) (at_most 7 put (omega arith))
