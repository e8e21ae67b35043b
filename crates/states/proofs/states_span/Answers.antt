-- `states::states_span` meets its contract.
-- Assumes nothing.
use Prim.Native.Nat.{ℕ, ◌^◌, ◌<◌}
use mathlib.Core.Path.{◌≡◌, refl, ◌∙◌}
use native.Mathlib.Omega.{arith}
use lib.ListN.{get_or}
use Rattle.directory.specs.declared.Sets.{Sets}
use Rattle.states.specs.Laid.{Laid}
use Rattle.states.specs.Roles.{only_states}
use Rattle.states.proofs.Fits.{most-entries, count_fits, none_spanned, empty_spanned, other_spanned, all_spanned}
use Rattle.states.proofs.states_span.Goals as goal

inside : (sets : Sets) (n : ℕ) (laid : Laid sets n) (i : ℕ) → (i ≡ only_states sets.roles sets.entries) × (i < sets.entries) → (i < 128) × (get_or sets.counts i 0 < 10 ^ 10)
inside sets n laid i here =
    (omega (arith, most-entries _ _ _ laid.held laid.fits), count_fits _ _ _ laid.held laid.fits i here.0 (λ q. omega arith))

pub only_states-requires : goal.only_states-requires
only_states-requires c = most-entries _ _ _ c.requires.1.held c.requires.1.fits

pub returns-in_default : goal.returns-in_default
returns-in_default c = λ ds n held fits. c.none.ensures ∙ none_spanned _ ds n held fits _ refl c.in_default.ensures

pub offset_bounds-sets-i : goal.offset_bounds-sets-i
offset_bounds-sets-i c = omega (arith, inside _ _ c.requires.1 _ c.in-Some.ensures)

pub bounds-sets-i : goal.bounds-sets-i
bounds-sets-i c = omega (arith, inside _ _ c.requires.1 _ c.in-Some.ensures)

pub offset_bounds-sets-i-2 : goal.offset_bounds-sets-i-2
offset_bounds-sets-i-2 c = omega (arith, inside _ _ c.requires.1 _ c.in-Some.ensures)

pub bounds-sets-i-2 : goal.bounds-sets-i-2
bounds-sets-i-2 c = omega (arith, inside _ _ c.requires.1 _ c.in-Some.ensures)

pub returns-then-size-eq0 : goal.returns-then-size-eq0
returns-then-size-eq0 c =
    let here = c.in-Some.ensures in
    λ ds n held fits. c.none-then-size-eq0.ensures ∙ empty_spanned _ ds n held fits _ here.0 (λ q. omega arith) c.if-size-eq0.true

pub overflow_mul-count : goal.overflow_mul-count
overflow_mul-count c = omega (arith, inside _ _ c.requires.1 _ c.in-Some.ensures)

pub returns-then-size-count : goal.returns-then-size-count
returns-then-size-count c =
    let here = c.in-Some.ensures in
    λ ds n held fits. c.none-then-size-count.ensures ∙ other_spanned _ ds n held fits _ here.0 (λ q. omega arith) c.if-size-eq0.false c.if-size-count.true

pub returns : goal.returns
returns c =
    let here = c.in-Some.ensures in
    λ ds n held fits. all_spanned _ ds n held fits _ here.0 (λ q. omega arith) c.if-size-eq0.false c.if-size-count.false
