-- `listing_text::write_listing` meets its contract, by the cases of the answer.
-- Assumes nothing.
use native.Mathlib.Omega.{arith}
use Rattle.writing.proofs.Puts.{from_start, spelled}
use Rattle.listing_text.proofs.Whole.{listing-accepted, listing-refused}
use Rattle.listing_text.proofs.write_listing.Goals as goal

pub put_accepted-requires : goal.put_accepted-requires
put_accepted-requires c = (omega (arith, c.requires.0), rw c.in-Ok.is at c.requires.1)

pub returns-in-Ok : goal.returns-in-Ok
returns-in-Ok c = from_start 32768 (spelled (listing-accepted _ _ _ c.in-Ok.is) c.put_accepted.ensures) (omega arith) c.requires.0

pub returns-in-Err : goal.returns-in-Err
returns-in-Err c = from_start 32768 (spelled (listing-refused _ _ _ c.in-Err.is) c.put_refusal.ensures) (omega arith) c.requires.0
