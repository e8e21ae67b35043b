-- `listing_text::list_product` meets its contract.
-- Assumes nothing.
use native.Mathlib.Omega.{arith}
use Rattle.listing_text.proofs.Whole.{longer, listed, few-entries}
use Rattle.listing_text.proofs.list_product.Goals as goal

pub returns-then-p-gt65536 : goal.returns-then-p-gt65536
returns-then-p-gt65536 c = rw (longer c.args.p.now c.if-p-gt65536.true) c.write_longer.ensures

pub write_listing-requires : goal.write_listing-requires
write_listing-requires c = (omega arith, few-entries c.args.p.now _ c.open_directory.ensures)

pub returns : goal.returns
returns c = rw (listed c.args.p.now _ c.open_directory.ensures c.if-p-gt65536.false) c.write_listing.ensures
