-- `opening::open_sets` meets its contract.
-- Assumes nothing.
use native.Mathlib.Omega.{arith}
use Rattle.layout.specs.Answers.{verdict_is}
use Rattle.layout.proofs.Replies.{handed_on}
use Rattle.opening.proofs.Opened.{headers-refused, read_laid, read_refused, read_accepted, headers-are, stays_unlent, opened_into}
use Rattle.opening.proofs.open_sets.Goals as goal

pub returns-in_err-headers : goal.returns-in_err-headers
unfolding verdict_is
returns-in_err-headers c = stays_unlent _ _ _ _ (handed_on _ _ c.from_residual.ensures) (headers-refused _ _ c.in_err-headers.ensures.judged)

pub judge_states-requires : goal.judge_states-requires
unfolding verdict_is
judge_states-requires c = let o = c.in_ok-headers.ensures in read_laid _ _ o.judged o.held

pub returns-in_err-judge_states : goal.returns-in_err-judge_states
unfolding verdict_is
returns-in_err-judge_states c =
    let o = c.in_ok-headers.ensures in
    stays_unlent _ _ _ _ (handed_on _ _ c.from_residual-in_err-judge_states.ensures) (read_refused _ _ o.judged o.held _ c.in_err-judge_states.ensures)

pub dsds-requires : goal.dsds-requires
dsds-requires c = omega (arith, (headers-are _ _ _ _ c.in_ok-headers.ensures).room)

pub returns : goal.returns
unfolding verdict_is
returns c =
    let o = c.in_ok-headers.ensures in
    opened_into _ _ _ o (read_accepted _ _ o.judged o.held c.in_ok-judge_states.ensures) _ c.dsds.ensures
