-- `sph::value_end` meets its contract.
-- Assumes nothing.
use native.Mathlib.Omega.{arith}
use Rattle.sph.proofs.LineEnds.{value_none, value-quoted, value-bad, value-unquoted}
use Rattle.sph.proofs.value_end.Goals as goal

pub returns-then-to-at : goal.returns-then-to-at
returns-then-to-at c = value_none _ _ _ (omega arith)

pub returns-then-x-eq34 : goal.returns-then-x-eq34
returns-then-x-eq34 c = value-quoted _ _ _ (omega arith) (omega arith) c.if-x-eq34.true c.quoted_end.ensures

pub returns-then-not-is_plain : goal.returns-then-not-is_plain
returns-then-not-is_plain c = value-bad _ _ _ (omega arith) (omega arith) c.if-x-eq34.false _ c.is_plain.ensures c.if-not-is_plain.true

pub returns : goal.returns
returns c = value-unquoted _ _ _ (omega arith) (omega arith) c.if-x-eq34.false _ c.is_plain.ensures c.if-not-is_plain.false c.unquoted_end.ensures
