-- `text::blocks` meets its contract: each block is skipped whole, and the last may end with the run.
-- Assumes nothing.
use native.Mathlib.Omega.{arith}
use Rattle.text.proofs.Runs.{skipped_block}
use Rattle.text.proofs.blocks.Goals as goal

pub loop-i-preserved : goal.loop-i-preserved
loop-i-preserved g c = skipped_block _ _ _ _ _ c.all_in.ensures c.if-not-all_in.false (omega arith) _ _ _ c.loop-i.invariant (omega arith) (omega arith) (omega arith)

pub returns-then-all_in : goal.returns-then-all_in
returns-then-all_in g c = skipped_block _ _ _ _ _ c.all_in-then-OVERLAPS-to.ensures c.if-all_in.true (omega arith) _ _ _ c.loop-i.invariant (omega arith) (omega arith) (omega arith)
