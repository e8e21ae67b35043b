-- `opening::open_product` meets its contract.
-- Assumes nothing.
use Rattle.layout.specs.Answers.{verdict_is}
use Rattle.layout.proofs.Replies.{handed_on}
use Rattle.opening.proofs.Opened.{stays_shut, whole_into}
use Rattle.opening.proofs.open_product.Goals as goal

pub returns-in_err-dsds : goal.returns-in_err-dsds
unfolding verdict_is
returns-in_err-dsds c = stays_shut _ _ _ (handed_on _ _ c.from_residual.ensures) c.in_err-dsds.ensures.judged

pub returns : goal.returns
returns c = whole_into _ _ _ c.in_ok-dsds.ensures
