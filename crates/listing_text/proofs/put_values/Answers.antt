-- `listing_text::put_values` meets its contract: the four puts make the rest of the line.
-- Assumes nothing.
use Rattle.writing.proofs.Puts.{then, spelled}
use Rattle.listing_text.proofs.EntryLine.{values_line}
use Rattle.listing_text.proofs.put_values.Goals as goal

pub returns : goal.returns
returns c =
    let args = c.args in
    let named = then c.put_name-named.ensures c.put_numbers.ensures in
    spelled (values_line args.names.now args.entry) (then c.put_byte-typed.ensures (then c.put_byte-parted.ensures named))
