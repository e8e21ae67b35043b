-- `column::gathering::gather` meets its contract.
-- Assumes nothing.
use native.Mathlib.Omega.{arith}
use Rattle.records.proofs.Laws.{role_varies, role_fixed}
use Rattle.column.proofs.Asked.{few}
use Rattle.column.proofs.gathering.gather.Goals as goal

pub offset_bounds-sets-request : goal.offset_bounds-sets-request
offset_bounds-sets-request c = omega (arith, few _ _ _ _ c.requires)

pub bounds : goal.bounds
bounds c = few _ _ _ _ c.requires

pub bounds-sets-request : goal.bounds-sets-request
bounds-sets-request c = few _ _ _ _ c.requires

pub gather_states-requires : goal.gather_states-requires
gather_states-requires c = let m = role_varies _ _ c.requires.opened _ c.requires.there _ c.in-Variable.is in (c.requires, m.0, m.1)

pub gather_equal-requires : goal.gather_equal-requires
gather_equal-requires c = (c.requires, role_fixed _ _ c.requires.opened _ c.requires.there c.in_default.not-Variable)
