-- `dsd::Entry::is_in_range` meets its contract.
-- Assumes nothing.
use mathlib.Core.Bool.{and-false}
use Rattle.layout.specs.Entries.{in_range}
use Rattle.dsd.specs.Held.{view_of, number_from}
use Rattle.dsd.proofs.Numbers.{from_minus_one, negative, positive}
use Rattle.dsd.proofs.Entry.is_in_range.Goals as goal

pub returns-then-is_negative : goal.returns-then-is_negative
unfolding in_range view_of number_from
returns-then-is_negative c = rw (negative (number_from c.args.self.offset) c.is_negative.result c.is_negative.ensures c.if-is_negative.true)

pub returns-then-is_negative-2 : goal.returns-then-is_negative-2
unfolding in_range view_of number_from
returns-then-is_negative-2 c = rw (negative (number_from c.args.self.size) c.is_negative-2.result c.is_negative-2.ensures c.if-is_negative-2.true, and-false)

pub returns-then-is_negative-3 : goal.returns-then-is_negative-3
unfolding in_range view_of number_from
returns-then-is_negative-3 c = rw (negative (number_from c.args.self.count) c.is_negative-3.result c.is_negative-3.ensures c.if-is_negative-3.true, and-false, and-false)

pub returns-then-not-self : goal.returns-then-not-self
unfolding in_range view_of number_from
returns-then-not-self c =
    let self = c.args.self in
    let is_negative = c.is_negative in
    let is-negative2 = c.is_negative-2 in
    let is-negative3 = c.is_negative-3 in
    rw (
      positive (number_from self.offset) is_negative.result is_negative.ensures c.if-is_negative.false,
      positive (number_from self.size) is-negative2.result is-negative2.ensures c.if-is_negative-2.false,
      positive (number_from self.count) is-negative3.result is-negative3.ensures c.if-is_negative-3.false,
      from_minus_one (number_from self.record_size),
      c.if-not-self.true,
    )

pub returns : goal.returns
unfolding in_range view_of number_from
returns c =
    let self = c.args.self in
    let is_negative = c.is_negative in
    let is-negative2 = c.is_negative-2 in
    let is-negative3 = c.is_negative-3 in
    rw (
      positive (number_from self.offset) is_negative.result is_negative.ensures c.if-is_negative.false,
      positive (number_from self.size) is-negative2.result is-negative2.ensures c.if-is_negative-2.false,
      positive (number_from self.count) is-negative3.result is-negative3.ensures c.if-is_negative-3.false,
      from_minus_one (number_from self.record_size),
      c.if-not-self.false,
    )
