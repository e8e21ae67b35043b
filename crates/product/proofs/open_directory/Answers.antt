-- `product::open_directory` meets its contract.
-- Assumes nothing.
use mathlib.Core.Path.{refl, sym, ap, ◌∙◌}
use Rattle.layout.specs.Answer.{is}
use Rattle.layout.specs.Answers.{reply_is, verdict_is}
use Rattle.layout.proofs.Replies.{handed-reply}
use Rattle.product.proofs.Calls.{now_dsds, now_few, now_directory}
use Rattle.product.proofs.open_directory.Goals as goal

pub returns-in_err-dsds : goal.returns-in_err-dsds
unfolding verdict_is
returns-in_err-dsds c = handed-reply _ _ _ c.from_residual.ensures ∙ rw (← c.in_err-dsds.ensures.judged)

pub fill_directory-requires : goal.fill_directory-requires
unfolding verdict_is
fill_directory-requires c =
    let o = c.in_ok-dsds.ensures in
    let opens = o.opens _ refl in
    ((now_dsds _ _ opens (sym o.judged)).1, now_few _ _ opens (sym o.judged), c.none-directory.ensures)

pub returns : goal.returns
unfolding reply_is verdict_is
returns c =
    let o = c.in_ok-dsds.ensures in
    ap is (c.fill_directory.ensures ∙ now_directory _ _ (o.opens _ refl) (sym o.judged)) ∙ rw (← o.judged)
