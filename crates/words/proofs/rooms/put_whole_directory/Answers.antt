-- `words::rooms::put_whole_directory` meets its contract, by the length of the answer, which the arrays' lengths give.
-- Assumes nothing.
use native.Mathlib.Omega.{arith}
use mathlib.Core.Path.{◌≡◌}
use lib.ListN.{length}
use Rattle.words.specs.Headers.{directory_words, directory_texts}
use Rattle.layout.specs.Answers.{verdict_is}
use Rattle.words.proofs.Lent.{first_short, second_short, both_written}
use Rattle.words.proofs.Lengths.{directory-words, directory-texts}
use borrow.Author.Rules.{rules}
use Rattle.words.proofs.rooms.put_whole_directory.Goals as goal

pub returns-then-words-lt772 : goal.returns-then-words-lt772
returns-then-words-lt772 c =
    let n : length (directory_words (verdict_is c.args.verdict) c.args.directory.now) ≡ 772 = search (rules, directory-words) in
    first_short (omega arith)

pub returns-then-texts-lt11520 : goal.returns-then-texts-lt11520
returns-then-texts-lt11520 c =
    let n : length (directory_words (verdict_is c.args.verdict) c.args.directory.now) ≡ 772 = search (rules, directory-words) in
    let m : length (directory_texts c.args.directory.now) ≡ 11520 = search (rules, directory-texts) in
    second_short (omega arith) (omega arith)

pub returns : goal.returns
returns c = both_written c.put_directory.ensures c.put_directory_texts.ensures (omega arith) (omega arith)
