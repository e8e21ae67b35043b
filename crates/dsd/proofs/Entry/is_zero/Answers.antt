-- `dsd::Entry::is_zero` meets its contract.
-- Assumes nothing.
use borrow.Author.Tests.{eq-eqb, ne_eqb}
use mathlib.Core.Bool.{and-false}
use Rattle.layout.specs.Entries.{all_zero}
use Rattle.dsd.specs.Held.{view_of, number_from}
use Rattle.dsd.proofs.Numbers.{is_zero}
use Rattle.dsd.proofs.Entry.is_zero.Goals as goal

pub returns-then-self-ne0 : goal.returns-then-self-ne0
unfolding all_zero view_of number_from
returns-then-self-ne0 c = rw (is_zero (number_from c.args.self.offset), ne_eqb c.args.self.offset.magnitude 0 c.if-self-ne0.true)

pub returns-then-self-ne0-2 : goal.returns-then-self-ne0-2
unfolding all_zero view_of number_from
returns-then-self-ne0-2 c =
    let self = c.args.self in
    rw (is_zero (number_from self.size), ne_eqb self.size.magnitude 0 c.if-self-ne0-2.true, and-false)

pub returns-then-self-ne0-3 : goal.returns-then-self-ne0-3
unfolding all_zero view_of number_from
returns-then-self-ne0-3 c =
    let self = c.args.self in
    rw (is_zero (number_from self.count), ne_eqb self.count.magnitude 0 c.if-self-ne0-3.true, and-false, and-false)

pub returns : goal.returns
unfolding all_zero view_of number_from
returns c =
    let self = c.args.self in
    rw (is_zero (number_from self.offset), is_zero (number_from self.size), is_zero (number_from self.count), is_zero (number_from self.record_size), eq-eqb self.offset.magnitude 0 c.if-self-ne0.false, eq-eqb self.size.magnitude 0 c.if-self-ne0-2.false, eq-eqb self.count.magnitude 0 c.if-self-ne0-3.false)
