-- `listing_text::put_name` meets its contract: what is lent of the name is the name without its trailing blanks.
-- Assumes nothing.
use Rattle.listing_text.proofs.Names.{name_lent, name_short}
use Rattle.writing.proofs.Puts.{then, at_most, spelled}
use Rattle.listing_text.proofs.put_name.Goals as goal

pub returns : goal.returns
returns c =
    let a = c.args in
    let kept = c.name_length-kept in
    at_most 29
    (spelled (name_lent a.names.now a.entry kept.result kept.ensures.0 kept.ensures.1) (then c.put_text-next.ensures c.put_byte.ensures))
    (name_short a.names.now a.entry kept.result kept.ensures.0 kept.ensures.1)
