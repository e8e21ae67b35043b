-- `column::gathering::gather_run` meets its contract.
-- Assumes nothing.
use mathlib.Core.Path.{sym, ◌∙◌}
use borrow.Author.Tests.{leb-true}
use Rattle.column.proofs.Runs.{none_gathered, in_column, in_product, cut_gathered, all_gathered}
use Rattle.column.proofs.gathering.gather_run.Goals as goal

pub returns-then-high-low : goal.returns-then-high-low
returns-then-high-low c = none_gathered _ _ _ _ c.requires.0 c.requires.1 _ _ c.max-low.ensures c.min-high.ensures c.if-high-low.true _

pub returns-then-not-ends_in : goal.returns-then-not-ends_in
returns-then-not-ends_in c =
    let passes = rw c.width.ensures at (sym c.ends_in.ensures ∙ c.if-not-ends_in.true) in
    cut_gathered _ _ _ _ c.requires.0 c.requires.1 _ _ c.max-low.ensures c.min-high.ensures c.if-high-low.false passes _ c.refuse.ensures.is

pub store_fields-requires : goal.store_fields-requires
store_fields-requires c =
    let ends = rw c.width.ensures at (leb-true _ _ (sym c.ends_in.ensures ∙ c.if-not-ends_in.false)) in
    let fits = c.requires.0 in
    let low = c.max-low.ensures in
    let high = c.min-high.ensures in
    (in_column _ _ _ _ fits c.requires.1 _ _ low high c.if-high-low.false, in_product _ _ _ _ fits c.requires.1 _ _ low high c.if-high-low.false, ends)

pub returns : goal.returns
returns c =
    let ends = rw c.width.ensures at (leb-true _ _ (sym c.ends_in.ensures ∙ c.if-not-ends_in.false)) in
    all_gathered _ _ _ _ c.requires.0 c.requires.1 _ _ c.max-low.ensures c.min-high.ensures c.if-high-low.false ends _ c.store_fields.ensures _
