-- `states::judge_filled` meets its contract.
-- Assumes nothing.
use mathlib.Core.Path.{◌∙◌}
use native.Mathlib.Omega.{arith}
use Rattle.layout.specs.Answers.{verdict_is}
use Rattle.states.proofs.Roles.{all-filled, one-unfilled}
use Rattle.states.proofs.judge_filled.Goals as goal

pub offset_bounds-sets-unfilled : goal.offset_bounds-sets-unfilled
offset_bounds-sets-unfilled c = let here = c.in-Some.ensures in omega arith

pub bounds-sets-unfilled : goal.bounds-sets-unfilled
bounds-sets-unfilled c = let here = c.in-Some.ensures in omega arith

pub returns-in-Some : goal.returns-in-Some
returns-in-Some c =
    let here = c.in-Some.ensures in
    c.refuse.ensures.judged ∙ one-unfilled c.args.sets.now c.args.tally.now.counts c.args.tally.now.totals _ here.0 (λ q. omega arith)

pub returns-in-None : goal.returns-in-None
unfolding verdict_is
returns-in-None c = all-filled c.args.sets.now c.args.tally.now.counts c.args.tally.now.totals c.in-None.ensures
