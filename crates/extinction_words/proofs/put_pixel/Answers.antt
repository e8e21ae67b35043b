-- `extinction_words::put_pixel` meets its contract, by the cases of the answer.
-- Assumes nothing.
use Prim.Native.Nat.{ℕ}
use mathlib.Core.List.{List, ◌∷◌}
use mathlib.Core.Path.{◌≡◌, ◌∙◌, ap}
use native.Mathlib.Omega.{arith}
use lib.ListN.{length}
use Rattle.writing.proofs.Puts.{then, at_most, spelled}
use Rattle.extinction_words.proofs.Answers.{pixel-words, no_pixel_words}
use borrow.Author.Rules.{rules}
use Rattle.extinction_words.proofs.put_pixel.Goals as goal

pub returns-in-Err : goal.returns-in-Err
returns-in-Err c = spelled (no_pixel_words c.args.answer _ c.in-Err.is) (then c.put_refusal-next.ensures c.put_words-in-Err.ensures)

pub returns-in-Ok : goal.returns-in-Ok
returns-in-Ok c =
    let put = then c.put_words-next.ensures c.put_words.ensures in
    let eight : length c.value_words.result ≡ 8 = search rules in
    spelled (ap (λ (l : List ℕ). 0 ∷ 0 ∷ 0 ∷ l) c.value_words.ensures ∙ pixel-words c.args.answer _ c.in-Ok.is) (at_most 11 put (omega arith))
