-- `product::header_values` meets its contract.
-- Assumes nothing.
use mathlib.Core.Path.{sym, ap, ◌∙◌}
use Rattle.layout.specs.Answer.{is}
use Rattle.layout.specs.Answers.{reply_is, verdict_is}
use Rattle.layout.proofs.Replies.{handed-reply}
use Rattle.layout.proofs.Sound.{sound}
use Rattle.product.proofs.header_values.Goals as goal

pub returns-in_err-judge_product : goal.returns-in_err-judge_product
unfolding verdict_is
returns-in_err-judge_product c = handed-reply _ _ _ c.from_residual.ensures ∙ rw (← c.in_err-judge_product.ensures)

pub at-requires : goal.at-requires
unfolding verdict_is
at-requires c = let m = (sound _ (sym c.in_ok-judge_product.ensures)).headed in (m.main, m.total)

pub returns : goal.returns
unfolding reply_is verdict_is
returns c = ap is c.at.ensures ∙ rw (← c.in_ok-judge_product.ensures)
