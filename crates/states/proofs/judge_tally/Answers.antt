-- `states::judge_tally` meets its contract.
-- Assumes nothing.
use mathlib.Core.Path.{refl, sym, ◌∙◌}
use native.Mathlib.Omega.{arith}
use Rattle.layout.specs.Answers.{verdict_is}
use Rattle.states.proofs.Fits.{most-entries, no_variable, none_described, one_described}
use Rattle.states.proofs.judge_tally.Goals as goal

pub has_variable-requires : goal.has_variable-requires
has_variable-requires c = most-entries _ _ _ c.requires.1.held c.requires.1.fits

pub returns-then-not-has_variable : goal.returns-then-not-has_variable
unfolding verdict_is
returns-then-not-has_variable c = λ ds n held fits. sym (no_variable _ ds n held fits _ (sym c.has_variable.ensures ∙ c.if-not-has_variable.true))

pub only_states-requires : goal.only_states-requires
only_states-requires c = most-entries _ _ _ c.requires.1.held c.requires.1.fits

pub judge_described-requires : goal.judge_described-requires
judge_described-requires c = let here = c.in-Some.ensures in (c.requires, here.1, here.0)

pub returns-in-Some : goal.returns-in-Some
returns-in-Some c =
    let here = c.in-Some.ensures in
    λ ds n held fits. c.judge_described.ensures
    ∙ one_described _ ds n held fits _ here.0 _ (sym c.has_variable.ensures ∙ c.if-not-has_variable.false) (λ q. omega arith)

pub returns-in-None : goal.returns-in-None
returns-in-None c =
    λ ds n held fits. c.refuse.ensures.judged
    ∙ sym (none_described _ ds n held fits _ refl _ (sym c.has_variable.ensures ∙ c.if-not-has_variable.false) c.in-None.ensures)
