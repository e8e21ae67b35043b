-- `lines::laid_in` meets its contract: the bytes so far, tested as a whole.
-- Assumes nothing.
use mathlib.Core.Path.{sym, ◌∙◌}
use native.Mathlib.Omega.{arith}
use Rattle.layout.specs.Bytes.{byte_at}
use Rattle.layout.proofs.Laws.{not-not}
use Rattle.text.proofs.Runs.{all_none, all_end}
use Rattle.lines.specs.Ranges.{misplaced}
use Rattle.lines.proofs.Ranges.{one_more}
use Rattle.lines.proofs.laid_in.Goals as goal

pub loop-i-init : goal.loop-i-init
loop-i-init g c = all_end _ _ _ _ _ (omega arith) (omega arith) (all_none _ _)

pub loop-i-preserved : goal.loop-i-preserved
unfolding misplaced byte_at
loop-i-preserved g c = one_more _ _ _ _ _ c.loop-i.auto.i c.loop-i.invariant (c.may_stand-all.ensures ∙ sym (not-not _))
