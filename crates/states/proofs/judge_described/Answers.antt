-- `states::judge_described` meets its contract.
-- Assumes nothing.
use mathlib.Core.Path.{◌∙◌}
use native.Mathlib.Omega.{arith}
use Rattle.states.proofs.Roles.{by_empty, by_size, by_bad, by_good}
use Rattle.states.proofs.Fits.{most-entries, count_fits, states-fit}
use Rattle.states.proofs.judge_described.Goals as goal

pub offset_bounds-sets-i : goal.offset_bounds-sets-i
offset_bounds-sets-i c = omega (arith, most-entries _ _ _ c.requires.0.1.held c.requires.0.1.fits)

pub bounds-sets-i : goal.bounds-sets-i
bounds-sets-i c = omega (arith, most-entries _ _ _ c.requires.0.1.held c.requires.0.1.fits)

pub offset_bounds-sets-i-2 : goal.offset_bounds-sets-i-2
offset_bounds-sets-i-2 c = omega (arith, most-entries _ _ _ c.requires.0.1.held c.requires.0.1.fits)

pub bounds-sets-i-2 : goal.bounds-sets-i-2
bounds-sets-i-2 c = omega (arith, most-entries _ _ _ c.requires.0.1.held c.requires.0.1.fits)

pub offset_bounds-sets-i-3 : goal.offset_bounds-sets-i-3
offset_bounds-sets-i-3 c = omega (arith, most-entries _ _ _ c.requires.0.1.held c.requires.0.1.fits)

pub bounds-sets-i-3 : goal.bounds-sets-i-3
bounds-sets-i-3 c = omega (arith, most-entries _ _ _ c.requires.0.1.held c.requires.0.1.fits)

pub judge_filled-requires : goal.judge_filled-requires
judge_filled-requires c = most-entries _ _ _ c.requires.0.1.held c.requires.0.1.fits

pub returns-then-size-eq0 : goal.returns-then-size-eq0
returns-then-size-eq0 c = c.judge_filled.ensures ∙ by_empty _ _ _ c.if-size-eq0.true

pub overflow_mul-count : goal.overflow_mul-count
overflow_mul-count c =
    omega (arith, count_fits _ _ _ c.requires.0.1.held c.requires.0.1.fits _ c.requires.2 (λ q. omega (arith, c.requires.1)))

pub returns-then-size-count : goal.returns-then-size-count
returns-then-size-count c = c.refuse.ensures.judged ∙ by_size _ _ _ c.if-size-eq0.false c.if-size-count.true

pub overflow_mul-bad : goal.overflow_mul-bad
overflow_mul-bad c =
    omega (arith, states-fit _ _ _ c.requires.0.1.held c.requires.0.1.fits _ c.requires.2 (λ q. omega (arith, c.requires.1)) c.if-size-eq0.false c.if-size-count.false)

pub overflow_add-place : goal.overflow_add-place
overflow_add-place c =
    omega (arith, states-fit _ _ _ c.requires.0.1.held c.requires.0.1.fits _ c.requires.2 (λ q. omega (arith, c.requires.1)) c.if-size-eq0.false c.if-size-count.false)

pub returns-then-bad-count : goal.returns-then-bad-count
returns-then-bad-count c = c.refuse-then-bad-count.ensures.judged ∙ by_bad _ _ _ c.if-size-eq0.false c.if-size-count.false c.if-bad-count.true

pub judge_filled-requires-2 : goal.judge_filled-requires-2
judge_filled-requires-2 c = most-entries _ _ _ c.requires.0.1.held c.requires.0.1.fits

pub returns : goal.returns
returns c = c.judge_filled-2.ensures ∙ by_good _ _ _ c.if-size-eq0.false c.if-size-count.false c.if-bad-count.false
