-- `directory::check_numbers` meets its contract.
-- Assumes nothing.
use Prim.Native.Nat.{◌+◌, ◌*◌}
use mathlib.Core.Bool.{and-false}
use mathlib.Core.Path.{sym, ap, ◌∙◌}
use native.Mathlib.Omega.{arith}
use lib.Dec.{leb}
use lib.ListN.{get_or}
use borrow.Author.Tests.{eq-eqb, ne_eqb}
use Rattle.layout.specs.Answer.{refused}
use Rattle.layout.specs.Answers.{verdict_is}
use Rattle.layout.specs.Entries.{largest_signed}
use Rattle.dsd.specs.Held.{number_from}
use Rattle.dsd.proofs.Numbers.{negative, positive}
use Rattle.directory.proofs.Rules.{eleven_by, within-most, fitting_most, nine_stops, ten_stops, eleven-left, over_by, over_one}
use Rattle.directory.proofs.check_numbers.Goals as goal

pub overflow_mul-start : goal.overflow_mul-start
overflow_mul-start c = let args = c.args in let pre = c.requires in omega (arith, within-most args.p.now args.dsds args.entries pre.0 args.reading pre.1.counted 0, pre.0.most)

pub overflow_add-start : goal.overflow_add-start
overflow_add-start c = let args = c.args in let pre = c.requires in omega (arith, within-most args.p.now args.dsds args.entries pre.0 args.reading pre.1.counted 0, pre.0.most, pre.0.inside)

pub offset_bounds-offsets-within : goal.offset_bounds-offsets-within
offset_bounds-offsets-within c = let args = c.args in let pre = c.requires in omega (arith, within-most args.p.now args.dsds args.entries pre.0 args.reading pre.1.counted 0, pre.0.most, c.if-within-entries.true)

pub bounds-offsets-within : goal.bounds-offsets-within
bounds-offsets-within c = let args = c.args in let pre = c.requires in omega (arith, within-most args.p.now args.dsds args.entries pre.0 args.reading pre.1.counted 0, pre.0.most, c.if-within-entries.true)

pub overflow_add-start-then-within-entries : goal.overflow_add-start-then-within-entries
overflow_add-start-then-within-entries c = let args = c.args in let pre = c.requires in omega (arith, within-most args.p.now args.dsds args.entries pre.0 args.reading pre.1.counted 0, pre.0.most, pre.0.inside, over_one (leb (get_or args.offsets.now args.reading.within 0) largest_signed) c.over_place.ensures)

pub returns-then-within-entries : goal.returns-then-within-entries
returns-then-within-entries c =
    let args = c.args in
    let pre = c.requires in
    let none = c.if-within-entries.true in
    let over = c.over_place.ensures ∙ over_by args.p.now args.dsds args.entries pre.0 args.reading pre.1.counted 0 _ pre.1.held none in
    λ n. c.refuse.ensures.judged ∙ ap (λ k. refused 9 (args.dsds + 280 * args.reading.within + k) args.reading.within) over ∙ sym (nine_stops args.p.now args.dsds args.entries pre.0 args.reading pre.1.counted n none)

pub overflow_mul-fitting : goal.overflow_mul-fitting
overflow_mul-fitting c = let args = c.args in let pre = c.requires in omega (arith, fitting_most args.p.now args.dsds args.entries pre.0 args.reading pre.1.counted 0, pre.0.most)

pub overflow_add-dsds : goal.overflow_add-dsds
overflow_add-dsds c = let args = c.args in let pre = c.requires in omega (arith, fitting_most args.p.now args.dsds args.entries pre.0 args.reading pre.1.counted 0, pre.0.most, pre.0.inside)

pub returns-then-fitting-entries : goal.returns-then-fitting-entries
returns-then-fitting-entries c =
    let args = c.args in
    let pre = c.requires in
    λ n. c.refuse-then-fitting-entries.ensures.judged ∙ sym (ten_stops args.p.now args.dsds args.entries pre.0 args.reading pre.1.counted n c.if-within-entries.false c.if-fitting-entries.true)

pub number_at-data_sets-requires : goal.number_at-data_sets-requires
number_at-data_sets-requires c = let pre = c.requires in (omega arith, omega (arith, pre.0.behind, pre.0.inside))

pub returns-then-is_negative : goal.returns-then-is_negative
returns-then-is_negative c =
    let args = c.args in
    let pre = c.requires in
    let read = c.number_at-data_sets in
    λ n. c.refuse-then-is_negative.ensures.judged ∙ sym
    (eleven-left args.p.now args.dsds args.entries pre.0 args.reading pre.1.counted n c.if-within-entries.false c.if-fitting-entries.false
    ∙ rw (eleven_by args.p.now args.dsds args.entries pre.0 (λ k. (c.shared_slice_known-1.given k).fits) read.result read.ensures args.reading.counted, negative (number_from read.result) c.is_negative.result c.is_negative.ensures c.if-is_negative.true))

pub returns-then-data_sets-reading : goal.returns-then-data_sets-reading
unfolding number_from
returns-then-data_sets-reading c =
    let args = c.args in
    let pre = c.requires in
    let read = c.number_at-data_sets in
    λ n. c.refuse-then-data_sets-reading.ensures.judged ∙ sym
    (eleven-left args.p.now args.dsds args.entries pre.0 args.reading pre.1.counted n c.if-within-entries.false c.if-fitting-entries.false
    ∙ rw (eleven_by args.p.now args.dsds args.entries pre.0 (λ k. (c.shared_slice_known-1.given k).fits) read.result read.ensures args.reading.counted, ne_eqb read.result.magnitude args.reading.counted c.if-data_sets-reading.true, and-false))

pub returns : goal.returns
unfolding verdict_is number_from
returns c =
    let args = c.args in
    let pre = c.requires in
    let read = c.number_at-data_sets in
    λ n. sym
    (eleven-left args.p.now args.dsds args.entries pre.0 args.reading pre.1.counted n c.if-within-entries.false c.if-fitting-entries.false
    ∙ rw (eleven_by args.p.now args.dsds args.entries pre.0 (λ k. (c.shared_slice_known-1.given k).fits) read.result read.ensures args.reading.counted, positive (number_from read.result) c.is_negative.result c.is_negative.ensures c.if-is_negative.false, eq-eqb read.result.magnitude args.reading.counted c.if-data_sets-reading.false))
