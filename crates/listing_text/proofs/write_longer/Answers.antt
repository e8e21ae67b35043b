-- `listing_text::write_longer` meets its contract: one put from the first byte on.
-- Assumes nothing.
use native.Mathlib.Omega.{arith}
use Rattle.layout.specs.Listing.{line_of}
use Rattle.listing_text.specs.Listing.{longer_text}
use Rattle.writing.proofs.Puts.{from_start}
use Rattle.listing_text.proofs.write_longer.Goals as goal

pub returns : goal.returns
unfolding longer_text line_of
returns c = from_start 32768 c.put_text.ensures (omega arith) c.requires
