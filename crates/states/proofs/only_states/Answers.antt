-- `states::only_states` meets its contract.
-- Assumes nothing.
use mathlib.Core.Path.{sym, ◌∙◌}
use Rattle.layout.proofs.Below.{none_passes, only_first, two_pass}
use Rattle.states.specs.Roles.{only_states}
use Rattle.states.proofs.only_states.Goals as goal

pub returns : goal.returns
unfolding only_states
returns c = (only_first _ _ _ c.in_ok-i.ensures _ c.first_states-2.ensures (sym c.is_some.ensures ∙ c.if-is_some.false), c.in_ok-i.ensures.1)

pub returns-in_err-i : goal.returns-in_err-i
unfolding only_states
returns-in_err-i c = rw c.from_residual.ensures (none_passes _ _ c.in_err-i.ensures)

pub returns-then-is_some : goal.returns-then-is_some
unfolding only_states
returns-then-is_some c = two_pass _ _ _ c.in_ok-i.ensures _ c.first_states-2.ensures (sym c.is_some.ensures ∙ c.if-is_some.true)
