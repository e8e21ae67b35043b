-- `words::rooms::put_whole_header` meets its contract, by the length of the answer, which the arrays' lengths give.
-- Assumes nothing.
use native.Mathlib.Omega.{arith}
use mathlib.Core.Path.{◌≡◌}
use lib.ListN.{length}
use Rattle.words.specs.Headers.{header_words, header_texts}
use Rattle.layout.specs.Answers.{verdict_is}
use Rattle.words.proofs.Lent.{first_short, second_short, both_written}
use Rattle.words.proofs.Lengths.{header-words, header-texts}
use borrow.Author.Rules.{rules}
use Rattle.words.proofs.rooms.put_whole_header.Goals as goal

pub returns-then-words-lt25 : goal.returns-then-words-lt25
returns-then-words-lt25 c =
    let n : length (header_words (verdict_is c.args.verdict) c.args.header) ≡ 25 = search (rules, header-words) in
    first_short (omega arith)

pub returns-then-texts-lt289 : goal.returns-then-texts-lt289
returns-then-texts-lt289 c =
    let n : length (header_words (verdict_is c.args.verdict) c.args.header) ≡ 25 = search (rules, header-words) in
    let m : length (header_texts c.args.header) ≡ 289 = search (rules, header-texts) in
    second_short (omega arith) (omega arith)

pub returns : goal.returns
returns c = both_written c.put_header.ensures c.put_header_texts.ensures (omega arith) (omega arith)
