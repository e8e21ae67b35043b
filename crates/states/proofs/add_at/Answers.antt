-- `states::add_at` meets its contract.
-- Assumes nothing.
use native.Mathlib.Omega.{arith}
use Rattle.states.proofs.Sums.{added_below, added_above, added-one}
use Rattle.states.proofs.add_at.Goals as goal

pub returns-then-kind-lt1 : goal.returns-then-kind-lt1
returns-then-kind-lt1 c = added_below _ _ _ c.if-kind-lt1.true

pub returns-then-kind-gt4 : goal.returns-then-kind-gt4
returns-then-kind-gt4 c = added_above _ _ _ c.if-kind-gt4.true

pub plus-requires : goal.plus-requires
plus-requires c = (c.requires.0 _, c.requires.1)

pub returns : goal.returns
returns c =
    let a = c.args in
    rw c.plus.ensures (added-one a.sums.now a.kind a.more (omega arith) (omega arith))
