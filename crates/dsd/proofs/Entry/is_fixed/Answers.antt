-- `dsd::Entry::is_fixed` meets its contract: the quotient is the count exactly when the product is the size.
-- Assumes nothing.
use borrow.Author.Tests.{le-leb, lt-leb}
use mathlib.Core.Bool.{and-false}
use native.Mathlib.Omega.{arith}
use Rattle.layout.specs.Entries.{is_fixed}
use Rattle.dsd.specs.Held.{view_of, number_from}
use Rattle.dsd.proofs.Numbers.{from_one, minus_below, no_quotient, by_quotient}
use Rattle.dsd.proofs.Entry.is_fixed.Goals as goal

pub returns-then-self : goal.returns-then-self
unfolding is_fixed view_of number_from
returns-then-self c = minus_below (number_from c.args.self.record_size) c.if-self.true _

pub returns-then-record_size-eq0 : goal.returns-then-record_size-eq0
unfolding is_fixed view_of number_from
returns-then-record_size-eq0 c = rw (from_one (number_from c.args.self.record_size), lt-leb 1 c.args.self.record_size.magnitude (omega arith), and-false)

pub returns-then-self-record_size-ne0 : goal.returns-then-self-record_size-ne0
unfolding is_fixed view_of number_from
returns-then-self-record_size-ne0 c =
    let self = c.args.self in
    rw (no_quotient self.count.magnitude self.record_size.magnitude self.size.magnitude c.if-record_size-eq0.false c.if-self-record_size-ne0.true, and-false)

pub returns : goal.returns
unfolding is_fixed view_of number_from
returns c =
    let self = c.args.self in
    rw (from_one (number_from self.record_size), c.if-self.false, le-leb 1 self.record_size.magnitude (omega arith))
    (by_quotient self.count.magnitude self.record_size.magnitude self.size.magnitude c.if-record_size-eq0.false c.if-self-record_size-ne0.false)
