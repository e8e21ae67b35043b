-- `states::tally_states` meets its contract: what is left of the tally from state `i` on is the whole tally.
-- Assumes nothing.
use mathlib.Core.Path.{sym, ap, ◌∙◌}
use native.Mathlib.Omega.{arith}
use Rattle.states.specs.States.{state_is, state_from, after, no_tally}
use Rattle.states.proofs.Sums.{no_sums}
use Rattle.states.proofs.Laws.{rest_whole, after-all, after_step, after_end, with_capped}
use Rattle.states.proofs.tally_states.Goals as goal

pub loop-i-init : goal.loop-i-init
loop-i-init c = rw c.none-tally.ensures (no_sums, no_sums, sym (ap (after no_tally 0) (rest_whole _ _ _)))

pub add_state-requires : goal.add_state-requires
add_state-requires c = let l = c.loop-i in (l.invariant.0, l.invariant.1, omega arith)

pub loop-i-preserved : goal.loop-i-preserved
unfolding state_from state_is
loop-i-preserved c =
    let l = c.loop-i in
    let sums = with_capped _ _ _ l.i c.add_state.ensures l.invariant.0 l.invariant.1 in
    (sums.0, sums.1, l.invariant.2 ∙ after_step _ _ _ _ _ _ _ (omega arith) c.at.ensures c.add_state.ensures)

pub returns : goal.returns
returns c = sym (after_end _ _ _ _ _ (omega arith)) ∙ sym c.loop-i.invariant.2 ∙ after-all _
