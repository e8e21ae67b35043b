-- `dsd::Entry::is_variable` meets its contract.
-- Assumes nothing.
use borrow.Author.Tests.{ne_eqb, le-ltb, not-true, not-false}
use mathlib.Core.Bool.{and-false}
use native.Mathlib.Omega.{arith}
use Rattle.layout.specs.Entries.{is_variable}
use Rattle.dsd.specs.Held.{view_of, number_from}
use Rattle.dsd.proofs.Numbers.{above, is-minus-one}
use Rattle.dsd.proofs.Fits.{view_named, all_pass}
use Rattle.dsd.proofs.Entry.is_variable.Goals as goal

pub returns-then-self : goal.returns-then-self
unfolding is_variable view_of number_from
returns-then-self c = rw (above (number_from c.args.self.size), c.if-self.true)

pub returns-then-self-eq0 : goal.returns-then-self-eq0
unfolding is_variable view_of number_from
returns-then-self-eq0 c =
    let self = c.args.self in
    rw (above (number_from self.size), le-ltb 0 self.size.magnitude (omega arith), and-false)

pub returns-then-not-self : goal.returns-then-not-self
unfolding is_variable view_of number_from
returns-then-not-self c =
    let self = c.args.self in
    rw (is-minus-one (number_from self.record_size), not-true self.record_size.minus c.if-not-self.true, and-false)

pub returns-then-self-ne1 : goal.returns-then-self-ne1
unfolding is_variable view_of number_from
returns-then-self-ne1 c =
    let self = c.args.self in
    rw (is-minus-one (number_from self.record_size), ne_eqb self.record_size.magnitude 1 c.if-self-ne1.true, and-false, and-false)

pub returns-then-self-ne77 : goal.returns-then-self-ne77
unfolding is_variable view_of number_from
returns-then-self-ne77 c = rw (ne_eqb c.args.self.ds_type 77 c.if-self-ne77.true, and-false, and-false)

pub returns : goal.returns
unfolding is_variable
returns c =
    let self = c.args.self in
    rw (view_named self, c.is_variable.ensures)
    (all_pass self c.if-self.false c.if-self-eq0.false (not-false self.record_size.minus c.if-not-self.false) c.if-self-ne1.false c.if-self-ne77.false)
