-- `sph::quoted_end` meets its contract: behind the run stand the byte 34 and then the rest.
-- Assumes nothing.
use native.Mathlib.Omega.{arith}
use Rattle.layout.specs.Sph.{ended, quoted}
use Rattle.sph.proofs.LineEnds.{run_within, quoted_run, after_none, after-other, after_it}
use Rattle.sph.proofs.quoted_end.Goals as goal

pub returns-then-to-quote : goal.returns-then-to-quote
returns-then-to-quote c = after_none _ _ quoted ended 34 _ _ (quoted_run _ _ _ _ (omega arith) (omega arith) c.first_not_plain-quote.ensures) (omega arith)

pub returns-then-p-quote-ne34 : goal.returns-then-p-quote-ne34
returns-then-p-quote-ne34 c = after-other _ _ quoted ended 34 _ _ (quoted_run _ _ _ _ (omega arith) (omega arith) c.first_not_plain-quote.ensures) (omega arith) (omega arith) c.if-p-quote-ne34.true

pub last_end-requires : goal.last_end-requires
last_end-requires c = let k = run_within _ _ _ _ (omega arith) c.first_not_plain-quote.ensures in (omega arith, omega arith)

pub returns : goal.returns
returns c = after_it _ _ quoted ended 34 _ _ (quoted_run _ _ _ _ (omega arith) (omega arith) c.first_not_plain-quote.ensures) (omega arith) (omega arith) c.if-p-quote-ne34.false (λ q. omega arith) c.last_end.ensures
