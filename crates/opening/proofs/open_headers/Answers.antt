-- `opening::open_headers` meets its contract.
-- Assumes nothing.
use native.Mathlib.Omega.{arith}
use Rattle.layout.specs.Answers.{verdict_is}
use Rattle.layout.proofs.Replies.{handed_on}
use Rattle.opening.proofs.Opened.{stays_closed, headers-are, opened}
use Rattle.opening.proofs.open_headers.Goals as goal

pub returns-in_err-headers : goal.returns-in_err-headers
unfolding verdict_is
returns-in_err-headers c = stays_closed _ _ _ _ (handed_on _ _ c.from_residual.ensures) c.in_err-headers.ensures.judged

pub dsds-requires : goal.dsds-requires
dsds-requires c = omega (arith, (headers-are _ _ _ _ c.in_ok-headers.ensures).room)

pub returns : goal.returns
returns c = opened _ _ _ _ c.in_ok-headers.ensures _ c.dsds.ensures
