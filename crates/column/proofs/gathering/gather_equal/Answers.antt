-- `column::gathering::gather_equal` meets its contract.
-- Assumes nothing.
use native.Mathlib.Omega.{arith}
use Rattle.column.proofs.Asked.{few, none_there, one_inside, one-few, equal_cut, equal_few, equal_all}
use Rattle.column.proofs.gathering.gather_equal.Goals as goal

pub offset_bounds-sets-entry : goal.offset_bounds-sets-entry
offset_bounds-sets-entry c = omega (arith, few _ _ _ _ c.requires.0)

pub bounds-sets-entry : goal.bounds-sets-entry
bounds-sets-entry c = few _ _ _ _ c.requires.0

pub returns-then-count-eq0 : goal.returns-then-count-eq0
returns-then-count-eq0 c = none_there _ _ _ _ c.requires.0 c.requires.1 c.if-count-eq0.true _ c.refuse.ensures.is

pub gather_run-requires : goal.gather_run-requires
gather_run-requires c = (c.requires.0.fits, one_inside _ _ _ _ c.requires.0 c.requires.1 (omega arith), one-few _ _ _ _ c.requires.0 c.requires.1 (omega arith))

pub returns-in_err-gather_run : goal.returns-in_err-gather_run
returns-in_err-gather_run c = equal_cut _ _ _ _ c.requires.0 c.requires.1 (omega arith) _ _ c.in_err-gather_run.ensures _ c.from_residual.ensures

pub returns-then-run-request : goal.returns-then-run-request
returns-then-run-request c = equal_few _ _ _ _ c.requires.0 c.requires.1 (omega arith) _ _ c.in_ok-gather_run.ensures (omega arith) _ c.refuse-then-run-request.ensures.is

pub returns : goal.returns
returns c = equal_all _ _ _ _ c.requires.0 c.requires.1 (omega arith) _ _ c.in_ok-gather_run.ensures (omega arith) _
