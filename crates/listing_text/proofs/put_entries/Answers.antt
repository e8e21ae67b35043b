-- `listing_text::put_entries` meets its contract. The loop's invariant: the lines of the first `i` entries are put, each of at most 164 bytes.
-- Assumes nothing.
use Prim.Native.Nat.{◌+◌, ◌*◌, ◌<◌}
use mathlib.Core.Path.{sym}
use native.Mathlib.Omega.{arith}
use lib.Seq.{length-sets}
use borrow.Author.Rules.{rules}
use Rattle.listing_text.specs.Listing.{listed_of, entry_text_at}
use Rattle.writing.proofs.Puts.{then, at_most, spelled, nothing}
use Rattle.listing_text.proofs.Lines.{texts_none, texts_more}
use Rattle.listing_text.proofs.put_entries.Goals as goal

pub loop-i-init : goal.loop-i-init
loop-i-init c = spelled (sym (texts_none c.args.directory)) (nothing c.args.out.now c.args.at)

pub put_entry-next-requires : goal.put_entry-next-requires
unfolding listed_of
put_entry-next-requires c =
    let put = c.loop-i.invariant in
    let number : c.of.result.number < 128 = rw c.of.ensures (omega arith) in
    (rw (put.written, length-sets) (omega (arith, c.requires, put.next, put.narrow)), (number, search rules))

pub loop-i-preserved : goal.loop-i-preserved
unfolding entry_text_at
loop-i-preserved c =
    let i = c.loop-i.i in
    let more = spelled (sym (texts_more c.args.directory i)) (then c.loop-i.invariant (rw c.of.ensures at c.put_entry-next.ensures)) in
    at_most (164 * (i + 1)) more (omega (arith, more.narrow))
