-- `column::gathering::gather_states` meets its contract. The loop's invariant: what the request has of the records of the first `i` states is stored.
-- Assumes nothing.
use mathlib.Core.Path.{◌∙◌}
use native.Mathlib.Omega.{arith}
use Rattle.states.specs.States.{state_is, state_from}
use Rattle.states.proofs.Laws.{no_rest}
use Rattle.records.proofs.Laws.{laid}
use Rattle.column.proofs.Walk.{all_there, too_few}
use Rattle.column.proofs.Asked.{few, all_states, run-asked, run_passed, run_refused}
use Rattle.column.proofs.gathering.gather_states.Goals as goal

pub states_span-span-requires : goal.states_span-span-requires
states_span-span-requires c = (_, laid _ _ c.requires.0.opened)

pub offset_bounds-sets-request : goal.offset_bounds-sets-request
offset_bounds-sets-request c = omega (arith, few _ _ _ _ c.requires.0)

pub bounds-sets-request : goal.bounds-sets-request
bounds-sets-request c = few _ _ _ _ c.requires.0

pub loop-i-init : goal.loop-i-init
loop-i-init c =
    let start = all_states _ _ _ _ c.requires.0 c.requires.1 _ (c.number-number.ensures ∙ c.requires.2) _ c.states_span-span.ensures in
    (start.0, omega (arith, c.requires.0.fits.some), start.1)

pub gather_run-requires : goal.gather_run-requires
unfolding state_is state_from
gather_run-requires c =
    run-asked _ _ _ _ c.requires.0 c.requires.1 _ (c.number-number.ensures ∙ c.requires.2) _ c.states_span-span.ensures _ _ _ _ c.loop-i.invariant.2 (omega arith) (state_is c.at-state.result) c.at-state.ensures _ c.adds_to.ensures.0

pub returns-in_err-gather_run : goal.returns-in_err-gather_run
unfolding state_is state_from
returns-in_err-gather_run c =
    run_refused _ _ _ _ c.requires.0 c.requires.1 _ (c.number-number.ensures ∙ c.requires.2) _ c.states_span-span.ensures _ _ _ _ c.loop-i.invariant.2 (omega arith) (state_is c.at-state.result) c.at-state.ensures _ c.adds_to.ensures.0
    _ _ c.in_err-gather_run.ensures _ c.from_residual.ensures

pub returns-then-request-first : goal.returns-then-request-first
unfolding state_is state_from
returns-then-request-first c =
    let w = run_passed _ _ _ _ c.requires.0 c.requires.1 _ (c.number-number.ensures ∙ c.requires.2) _ c.states_span-span.ensures _ _ _ _ c.loop-i.invariant.2 (omega arith) (state_is c.at-state.result) c.at-state.ensures _ c.adds_to.ensures.0
    _ _ c.in_ok-gather_run.ensures in
    all_there _ _ _ _ _ c.requires.0.fits w c.if-request-first.true _

pub overflow_add-first : goal.overflow_add-first
unfolding state_is state_from
overflow_add-first c =
    omega (arith, (run-asked _ _ _ _ c.requires.0 c.requires.1 _ (c.number-number.ensures ∙ c.requires.2) _ c.states_span-span.ensures _ _ _ _ c.loop-i.invariant.2 (omega arith) (state_is c.at-state.result) c.at-state.ensures _ c.adds_to.ensures.0).2)

pub overflow_add-place : goal.overflow_add-place
unfolding state_is state_from
overflow_add-place c =
    omega (arith, (run-asked _ _ _ _ c.requires.0 c.requires.1 _ (c.number-number.ensures ∙ c.requires.2) _ c.states_span-span.ensures _ _ _ _ c.loop-i.invariant.2 (omega arith) (state_is c.at-state.result) c.at-state.ensures _ c.adds_to.ensures.0).1)

pub loop-i-preserved : goal.loop-i-preserved
unfolding state_is state_from
loop-i-preserved c = (
  c.loop-i.invariant.0,
  c.if-request-first.false,
  run_passed _ _ _ _ c.requires.0 c.requires.1 _ (c.number-number.ensures ∙ c.requires.2) _ c.states_span-span.ensures _ _ _ _ c.loop-i.invariant.2 (omega arith) (state_is c.at-state.result) c.at-state.ensures _ c.adds_to.ensures.0
      _ _ c.in_ok-gather_run.ensures,
)

pub returns : goal.returns
returns c = too_few _ _ _ _ _ c.requires.0.fits c.loop-i.invariant.2 (no_rest _ _ _ _ _ (omega arith)) c.loop-i.invariant.1 _ c.refuse.ensures.is
