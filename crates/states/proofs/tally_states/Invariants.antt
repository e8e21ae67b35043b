use mathlib.Core.Path.{◌≡◌}
use Rattle.states.specs.States.{states_from, Capped, after, no_tally}
use Rattle.states.proofs.Laws.{rest_from}
use Rattle.states.proofs.tally_states.Given as goal

abbrev pub invariant-loop-i : goal.invariant-loop-i
invariant-loop-i l =
    Capped l.tally.counts
    × Capped l.tally.totals
    × (after no_tally 0 (states_from l.p l.start l.count) ≡ after l.tally l.i (rest_from l.p l.start l.count l.i))
