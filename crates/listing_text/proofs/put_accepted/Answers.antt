-- `listing_text::put_accepted` meets its contract: the four puts make the listing.
-- Assumes nothing.
use Rattle.writing.proofs.Puts.{then, spelled}
use Rattle.listing_text.proofs.Lines.{accepted-lines}
use Rattle.listing_text.proofs.put_accepted.Goals as goal

pub returns : goal.returns
returns c =
    let a = c.args in
    let listed = then c.put_entries-listed.ensures c.put_text.ensures in
    spelled (accepted-lines a.size a.directory) (then c.put_text-begun.ensures (then c.put_number-sized.ensures listed))
