-- `states::plus` meets its contract.
-- Assumes nothing.
use mathlib.Core.Path.{sym}
use Rattle.states.proofs.Sums.{capped_is, capped_stops}
use Rattle.states.proofs.plus.Goals as goal

pub returns-then-all-gt-CAP : goal.returns-then-all-gt-CAP
returns-then-all-gt-CAP c = sym (capped_stops _ c.if-all-gt-CAP.true)

pub returns : goal.returns
returns c = sym (capped_is _ c.if-all-gt-CAP.false)
