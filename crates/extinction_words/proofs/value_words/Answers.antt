-- `extinction_words::value_words` meets its contract.
-- Assumes nothing.
use mathlib.Core.Path.{◌≡◌, ◌∙◌, ap}
use mir.Syntax.{w8, w32, w64}
use mir.Val.{to_z, of_z}
use Rattle.words.specs.Words.{word}
use Rattle.extinction_words.proofs.Answers.{values_are}
use borrow.Author.Rules.{rules}
use Rattle.extinction_words.proofs.value_words.Goals as goal

pub returns : goal.returns
returns c =
    let pixel = c.args.pixel in
    let days : to_z w64 (of_z w64 (to_z w32 (of_z w32 pixel.time.days))) ≡ pixel.time.days = search rules in
    let quality : to_z w64 (of_z w64 (to_z w8 (of_z w8 pixel.quality))) ≡ pixel.quality = search rules in
    values_are pixel _ _ (c.word_of.ensures ∙ ap word days) (c.word_of-2.ensures ∙ ap word quality)
