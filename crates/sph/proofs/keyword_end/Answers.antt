-- `sph::keyword_end` meets its contract: behind the run stand the byte 61 and then the rest.
-- Assumes nothing.
use native.Mathlib.Omega.{arith}
use Rattle.layout.specs.Sph.{keyword, value}
use Rattle.sph.proofs.LineEnds.{run_within, keyword_run, after_none, after-other, after_it}
use Rattle.sph.proofs.keyword_end.Goals as goal

pub returns-then-to-equals : goal.returns-then-to-equals
returns-then-to-equals c = after_none _ _ keyword value 61 _ _ (keyword_run _ _ _ _ (omega arith) (omega arith) c.first_not_in_keyword-equals.ensures) (omega arith)

pub returns-then-p-equals-ne61 : goal.returns-then-p-equals-ne61
returns-then-p-equals-ne61 c = after-other _ _ keyword value 61 _ _ (keyword_run _ _ _ _ (omega arith) (omega arith) c.first_not_in_keyword-equals.ensures) (omega arith) (omega arith) c.if-p-equals-ne61.true

pub value_end-requires : goal.value_end-requires
value_end-requires c = let k = run_within _ _ _ _ (omega arith) c.first_not_in_keyword-equals.ensures in (omega arith, omega arith)

pub returns : goal.returns
returns c = after_it _ _ keyword value 61 _ _ (keyword_run _ _ _ _ (omega arith) (omega arith) c.first_not_in_keyword-equals.ensures) (omega arith) (omega arith) c.if-p-equals-ne61.false (λ q. omega arith) c.value_end.ensures
