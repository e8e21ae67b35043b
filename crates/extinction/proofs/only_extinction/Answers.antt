-- `extinction::only_extinction` meets its contract.
-- Assumes nothing.
use mathlib.Core.Path.{sym, ◌∙◌}
use Rattle.layout.proofs.Below.{none_passes, only_first, two_pass}
use Rattle.extinction.proofs.only_extinction.Goals as goal

pub returns : goal.returns
returns c = (only_first _ _ _ c.in_ok-entry.ensures _ c.first_extinction-2.ensures (sym c.is_some.ensures ∙ c.if-is_some.false), c.in_ok-entry.ensures.1)

pub returns-in_err-entry : goal.returns-in_err-entry
returns-in_err-entry c = rw c.from_residual.ensures (none_passes _ _ c.in_err-entry.ensures)

pub returns-then-is_some : goal.returns-then-is_some
returns-then-is_some c = two_pass _ _ _ c.in_ok-entry.ensures _ c.first_extinction-2.ensures (sym c.is_some.ensures ∙ c.if-is_some.true)
