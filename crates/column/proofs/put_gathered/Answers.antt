-- `column::put_gathered` meets its contract.
-- Assumes nothing.
use Rattle.layout.specs.Answers.{verdict_is}
use Rattle.column.proofs.Filled.{refused_column, gathered_put}
use Rattle.column.proofs.put_gathered.Goals as goal

pub returns-in_err-gather : goal.returns-in_err-gather
unfolding verdict_is
returns-in_err-gather c = refused_column _ _ _ c.in_err-gather.ensures.told _ c.from_residual.ensures

pub returns : goal.returns
returns c = rw c.copy_from_slice.ensures.after (gathered_put _ _ _ _ c.requires.0.fits _ c.in_ok-gather.ensures _ _)
