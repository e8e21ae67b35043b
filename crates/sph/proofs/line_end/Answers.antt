-- `sph::line_end` meets its contract.
-- Assumes nothing.
use native.Mathlib.Omega.{arith}
use Rattle.sph.proofs.LineEnds.{line-blanks, line_low, line-high, line-keyword}
use Rattle.sph.proofs.line_end.Goals as goal

pub returns-then-x-eq32 : goal.returns-then-x-eq32
returns-then-x-eq32 c = line-blanks _ _ _ (omega arith) (omega arith) c.if-x-eq32.true c.blanks_end.ensures

pub returns-then-x-lt65 : goal.returns-then-x-lt65
returns-then-x-lt65 c = line_low _ _ _ (omega arith) (omega arith) c.if-x-eq32.false c.if-x-lt65.true

pub returns-then-x-gt90 : goal.returns-then-x-gt90
returns-then-x-gt90 c = line-high _ _ _ (omega arith) (omega arith) c.if-x-eq32.false c.if-x-gt90.true

pub returns : goal.returns
returns c = line-keyword _ _ _ (omega arith) (omega arith) c.if-x-eq32.false c.if-x-lt65.false c.if-x-gt90.false c.keyword_end.ensures
