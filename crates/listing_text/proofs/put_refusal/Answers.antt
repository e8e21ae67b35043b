-- `listing_text::put_refusal` meets its contract: the four puts make the line.
-- Assumes nothing.
use Rattle.writing.proofs.Puts.{then, spelled}
use Rattle.listing_text.proofs.Lines.{refusal-line}
use Rattle.listing_text.proofs.put_refusal.Goals as goal

pub returns : goal.returns
returns c =
    let a = c.args.refusal in
    let placed = then c.put_number-placed.ensures c.put_number.ensures in
    spelled (refusal-line a.number a.place a.entry) (then c.put_text-begun.ensures (then c.put_number-numbered.ensures placed))
