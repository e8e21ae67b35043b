-- `records::place_of_unequal` meets its contract.
-- Assumes nothing.
use mathlib.Core.Path.{◌∙◌}
use Rattle.records.proofs.Laws.{laid, states_inside, no_unequal}
use Rattle.records.proofs.place_of_unequal.Goals as goal

pub states_span-span-requires : goal.states_span-span-requires
states_span-span-requires c = (_, laid _ _ c.requires.0)

pub find_record-requires : goal.find_record-requires
find_record-requires c = states_inside _ _ c.requires.0 _ c.requires.1 c.requires.2 _ c.states_span-span.ensures

pub returns-in-None : goal.returns-in-None
returns-in-None c =
    no_unequal _ _ c.requires.0 _ c.requires.1 c.requires.2 _ c.states_span-span.ensures _ _ (c.number-number.ensures ∙ c.requires.3) _ c.find_record.ensures c.in-None.is _ c.refuse.ensures.is
