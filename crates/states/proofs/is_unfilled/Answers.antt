-- `states::is_unfilled` meets its contract.
-- Assumes nothing.
use Rattle.states.proofs.Roles.{not_unfilled, count_differs, total_decides}
use Rattle.states.proofs.is_unfilled.Goals as goal

pub returns-in_default : goal.returns-in_default
returns-in_default c = not_unfilled _ _ _ _ _ c.in_default.not-Variable

pub returns-then-tally-place : goal.returns-then-tally-place
returns-then-tally-place c = rw c.in-Variable.is (count_differs _ _ _ _ _ _ c.place-place.ensures.0 c.if-tally-place.true)

pub returns : goal.returns
returns c = rw c.in-Variable.is (total_decides _ _ _ _ _ _ c.place-place.ensures.0 c.if-tally-place.false)
