-- `states::State::adds_to` meets its contract.
-- Assumes nothing.
use native.Mathlib.Omega.{arith}
use Rattle.states.specs.States.{state_is}
use Rattle.states.proofs.Laws.{count_detached, count-other, count-attached}
use Rattle.states.proofs.State.adds_to.Goals as goal

pub returns-then-self-ne0 : goal.returns-then-self-ne0
unfolding state_is
returns-then-self-ne0 c = (count_detached (state_is c.args.self) _ c.if-self-ne0.true, omega arith)

pub returns-then-self-number : goal.returns-then-self-number
unfolding state_is
returns-then-self-number c = (count-other (state_is c.args.self) _ c.if-self-number.true, omega arith)

pub returns : goal.returns
unfolding state_is
returns c = (count-attached (state_is c.args.self) _ (omega arith) c.if-self-number.false, omega arith)
