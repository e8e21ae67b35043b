-- `directory::check_places` meets its contract.
-- Assumes nothing.
use Rattle.std.specs.Prelude.{Ok}
use Prim.Native.Nat.{ℕ}
use mathlib.Core.List.{List}
use mathlib.Core.Path.{refl, sym, ◌∙◌}
use native.Mathlib.Omega.{arith}
use borrow.Author.Tests.{eq-eqb, ne_eqb}
use Rattle.layout.specs.Answers.{verdict_is}
use Rattle.placement.specs.Cover.{NoneFound}
use Rattle.directory.specs.Checks.{place_rules, Placed}
use Rattle.directory.proofs.check_places.Goals as goal

-- the answer where one of the two tests says yes
none_found : (offsets sizes : List ℕ) (entries h n : ℕ) → NoneFound offsets sizes entries h n → Placed offsets sizes entries h n (Ok tt)
unfolding verdict_is place_rules
none_found offsets sizes entries h n none =
    record { answer = λ ds held e. sym (rw (e, none.inside.answer ds held e, eq-eqb entries entries refl, none.apart.answer ds held e, eq-eqb entries entries refl, none.covered.answer ds held e, eq-eqb n n refl)) }

pub returns-then-are_joined : goal.returns-then-are_joined
returns-then-are_joined c = none_found _ _ _ _ _ (c.are_joined.ensures c.if-are_joined.true)

pub returns-then-are_joined_in_file_order : goal.returns-then-are_joined_in_file_order
returns-then-are_joined_in_file_order c = none_found _ _ _ _ _ (c.are_joined_in_file_order.ensures c.if-are_joined_in_file_order.true)

pub returns-in-Some : goal.returns-in-Some
unfolding place_rules
returns-in-Some c =
    let outside = c.in-Some.ensures in
    record { answer = λ ds held e. c.refuse.ensures.judged ∙ sym (rw (e, outside.1.answer ds held e, ne_eqb c.in-Some.outside c.args.entries (λ z. omega arith))) }

pub returns-in-Some-first_overlapping : goal.returns-in-Some-first_overlapping
unfolding place_rules
returns-in-Some-first_overlapping c =
    let entries = c.args.entries in
    let none = c.in_default.ensures in
    let overlapping = c.in-Some-first_overlapping in
    record { answer = λ ds held e. c.refuse-in-Some-first_overlapping.ensures.judged ∙ sym (rw (e, none.answer ds held e, eq-eqb entries entries refl, overlapping.ensures.1.answer ds held e, ne_eqb overlapping.overlapping entries (λ z. omega (arith, overlapping.ensures.0)))) }

pub returns-in-Some-first_uncovered : goal.returns-in-Some-first_uncovered
unfolding place_rules
returns-in-Some-first_uncovered c =
    let entries = c.args.entries in
    let none = c.in_default.ensures in
    let apart = c.in_default-first_overlapping.ensures in
    let uncovered = c.in-Some-first_uncovered in
    record { answer = λ ds held e. c.refuse-in-Some-first_uncovered.ensures.judged ∙ sym (rw (e, none.answer ds held e, eq-eqb entries entries refl, apart.answer ds held e, eq-eqb entries entries refl, uncovered.ensures.1.answer ds held e, ne_eqb uncovered.uncovered c.args.length (λ z. omega (arith, uncovered.ensures.0)))) }

pub returns : goal.returns
returns c =
    none_found _ _ _ _ _ (record { inside = c.in_default.ensures; apart = c.in_default-first_overlapping.ensures; covered = c.in_default-first_uncovered.ensures })
