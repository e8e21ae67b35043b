-- `opening::judge_product` meets its contract.
-- Assumes nothing.
use Rattle.layout.specs.Answers.{verdict_is}
use Rattle.opening.proofs.Opened.{read_judged}
use Rattle.opening.proofs.judge_product.Goals as goal

pub returns : goal.returns
unfolding verdict_is
returns c = let o = c.in_ok-check_headers.ensures in read_judged _ _ o.judged o.held _ c.judge_states.ensures
