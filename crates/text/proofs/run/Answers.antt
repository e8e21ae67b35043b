-- `text::run` meets its contract: a block by itself, blocks of 96, and blocks of 16.
-- Assumes nothing.
use native.Mathlib.Omega.{arith}
use Rattle.text.proofs.Runs.{skipped_first, skipped_block, skipped_on}
use Rattle.text.proofs.run.Goals as goal

pub returns : goal.returns
returns g c =
    let first = skipped_block _ _ _ _ _ c.all_in.ensures c.if-not-all_in.false (omega arith) _ _ _ (skipped_first _ c.args.from c.args.to (omega arith)) (omega arith) (omega arith) (omega arith) in
    skipped_on _ _ _ _ _ first (skipped_on _ _ _ _ _ c.blocks-wide.ensures c.blocks-2.ensures)
