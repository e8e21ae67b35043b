-- `times::texts::is_formed` meets its contract: by how much the bytes so far are out of their bounds, put together.
-- Assumes nothing.
use mathlib.Core.Path.{◌≡◌, refl, ◌∙◌}
use native.Mathlib.Omega.{arith}
use Rattle.layout.specs.Search.{some}
use Rattle.times.specs.Formed.{formed}
use Rattle.times.proofs.Blocks.{more_short, all_short}
use Rattle.times.proofs.texts.is_formed.Goals as goal

pub loop-i-init : goal.loop-i-init
unfolding some
loop-i-init c = refl

pub loop-i-preserved : goal.loop-i-preserved
loop-i-preserved c = more_short c.args.text.now c.loop-i.i c.loop-i.short _ _ c.loop-i.invariant c.misfit.ensures c.misfit-in-loop-i.ensures

pub returns : goal.returns
unfolding formed
returns c = let e : c.loop-i.i ≡ 16 = omega arith in rw e at c.loop-i.invariant ∙ all_short c.args.text.now
