use Prim.Native.Nat.{◌*◌}
use Rattle.writing.specs.Put.{Put}
use Rattle.listing_text.specs.Listing.{entry_texts}
use Rattle.listing_text.proofs.put_entries.Given as goal

abbrev pub invariant-loop-i : goal.invariant-loop-i
invariant-loop-i l = Put (164 * l.i) (entry_texts l.directory l.i) l.initial.out l.out l.at l.next
