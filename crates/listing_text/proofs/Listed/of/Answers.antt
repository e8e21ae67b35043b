-- `listing_text::Listed::of` meets its contract. Assumes nothing.
use borrow.Author.Rules.{rules}
use Rattle.listing_text.specs.Listing.{listed_of}
use Rattle.listing_text.proofs.Listed.of.Goals as goal

pub returns : goal.returns
unfolding listed_of
returns c = search rules
