-- `states::judge_states` meets its contract.
-- Assumes nothing.
use mathlib.Core.Path.{sym, ◌∙◌}
use Rattle.layout.specs.Answers.{verdict_is}
use Rattle.states.proofs.Fits.{most-entries, no_variable, span_inside, tally_decides}
use Rattle.states.proofs.judge_states.Goals as goal

pub has_variable-requires : goal.has_variable-requires
has_variable-requires c =
    let l = c.requires in
    most-entries _ _ _ l.held l.fits

pub returns-then-not-has_variable : goal.returns-then-not-has_variable
unfolding verdict_is
returns-then-not-has_variable c = λ ds n held fits. sym (no_variable _ ds n held fits _ (sym c.has_variable.ensures ∙ c.if-not-has_variable.true))

pub states_span-span-requires : goal.states_span-span-requires
states_span-span-requires c = (_, c.requires)

pub tally_states-tally-requires : goal.tally_states-tally-requires
tally_states-tally-requires c =
    let l = c.requires in
    rw (c.states_span-span.ensures _ _ l.held l.fits) (span_inside _ _ l.fits)

pub judge_tally-requires : goal.judge_tally-requires
judge_tally-requires c = (_, c.requires)

pub returns : goal.returns
returns c = λ ds n held fits. c.judge_tally.ensures ds n held fits ∙ tally_decides ds n fits _ _ _ (c.states_span-span.ensures ds n held fits) c.tally_states-tally.ensures
