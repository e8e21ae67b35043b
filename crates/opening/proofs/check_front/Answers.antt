-- `opening::check_front` meets its contract.
-- Assumes nothing.
use native.Mathlib.Omega.{arith}
use Rattle.layout.specs.Answers.{verdict_is}
use Rattle.layout.proofs.Replies.{handed_on}
use Rattle.directory.proofs.Rules.{dsds_of}
use Rattle.opening.proofs.Opened.{stays_front, six_refuse, text_refuse, headers, front_good}
use Rattle.opening.proofs.check_front.Goals as goal

pub check_header-requires : goal.check_header-requires
check_header-requires c = λ h. omega (arith, c.requires)

pub returns-in_err-header : goal.returns-in_err-header
unfolding verdict_is
returns-in_err-header c = stays_front _ _ _ _ (handed_on _ _ c.from_residual.ensures) (six_refuse _ _ _ c.in_err-header.ensures.verdict-is)

pub dsds-requires : goal.dsds-requires
dsds-requires c = omega (arith, (headers _ _ _ c.in_ok-header.ensures c.requires).room)

pub check_text-requires : goal.check_text-requires
check_text-requires c = rw c.dsds.ensures (dsds_of (headers _ _ _ c.in_ok-header.ensures c.requires))

pub returns-in_err-check_text : goal.returns-in_err-check_text
unfolding verdict_is
returns-in_err-check_text c =
    stays_front _ _ _ _ (handed_on _ _ c.from_residual-in_err-check_text.ensures) (text_refuse _ _ _ c.in_ok-header.ensures _ (c.in_err-check_text.ensures c.args.length))

pub returns : goal.returns
unfolding verdict_is
returns c = front_good _ _ _ c.in_ok-header.ensures c.requires (c.in_ok-check_text.ensures c.args.length)
