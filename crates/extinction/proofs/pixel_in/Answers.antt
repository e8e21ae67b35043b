-- `extinction::pixel_in` meets its contract. Assumes nothing.
use mathlib.Core.Path.{sym, ap, ◌∙◌}
use native.Mathlib.Omega.{arith}
use mir.Syntax.{w8}
use mir.Val.{to_z, of_z}
use mir.Facts.{to_z-of_z}
use borrow.Author.Rules.{rules}
use Rattle.layout.specs.Answer.{is}
use Rattle.extinction.specs.declared.Pixel.{Pixel}
use Rattle.extinction.specs.Extinction.{pixel_of}
use Rattle.extinction.proofs.Pixels.{past_pixels, empty-record, values}
use Rattle.layout.specs.Answers.{reply_is, reply}
use Rattle.extinction.proofs.pixel_in.Goals as goal

pub returns-then-pixel-ge-PIXELS : goal.returns-then-pixel-ge-PIXELS
unfolding reply_is
returns-then-pixel-ge-PIXELS c = ap reply c.refuse.ensures.is ∙ past_pixels _ _ _ (omega arith)

pub returns-then-read : goal.returns-then-read
unfolding reply_is pixel_of
returns-then-read c =
    let read = c.read_pixel-read in
    let back = to_z-of_z {w = w8} {z = read.result.quality} (search rules) in
    ap reply c.refuse-then-read.ensures.is ∙ empty-record _ _ _ (omega arith) (sym (ap (λ (x : Pixel). x.quality) read.ensures) ∙ sym back ∙ ap (to_z w8) c.if-read.true)

pub returns : goal.returns
unfolding reply_is pixel_of
returns c =
    let read = c.read_pixel-read in
    ap is read.ensures ∙ values _ _ _ (omega arith) (λ h. c.if-read.false (ap (of_z w8) (ap (λ (x : Pixel). x.quality) read.ensures ∙ h)))
