-- `time_words::put_whole_text` meets its contract: the text is of 27 bytes.
-- Assumes nothing.
use mathlib.Core.Logic.{inl, inr}
use mathlib.Core.Path.{◌≡◌}
use native.Mathlib.Omega.{arith}
use lib.ListN.{length}
use Rattle.words.proofs.Lent.{first_short, second_short, both_written}
use Rattle.words.proofs.Lengths.{verdict_three}
use borrow.Author.Rules.{rules}
use Rattle.time_words.proofs.put_whole_text.Goals as goal

pub returns-then-words-lt3 : goal.returns-then-words-lt3
returns-then-words-lt3 c =
    let long : length c.args.bytes.now ≡ 27 = search rules in
    elim c.then-words-lt3.either [
      | inl a ↦ first_short (rw verdict_three (omega arith))
      | inr a ↦ second_short (rw verdict_three (omega arith)) (omega arith)
    ]

pub returns : goal.returns
returns c =
    let long : length c.args.bytes.now ≡ 27 = search rules in
    both_written c.put_verdict.ensures c.put_text.ensures (rw verdict_three (omega arith)) (omega arith)
