-- `records::place_of_record` meets its contract.
-- Assumes nothing.
use Rattle.records.proofs.Laws.{role_varies}
use Rattle.records.proofs.place_of_record.Goals as goal

pub place_of_unequal-requires : goal.place_of_unequal-requires
place_of_unequal-requires c =
    let m = role_varies _ _ c.requires _ c.if-sets-entry.false _ c.in-Variable.is in
    (c.requires, c.if-sets-entry.false, m.0, m.1)
