-- `states::has_variable` meets its contract: the search found one.
-- Assumes nothing.
use Rattle.std.proofs.Common.{rules, tests}
use mathlib.Core.Path.{◌∙◌}
use lib.ListN.{take}
use Rattle.std.proofs.lemmas.Iterator.{YieldsList-from_slice}
use Rattle.std.proofs.lemmas.Iterator.Search.{any_from_yields_List}
use Rattle.dsd.specs.Held.{of_variable}
use Rattle.states.proofs.Roles.{variable_found}
use Rattle.states.proofs.has_variable.Goals as goal

pub returns : goal.returns
returns c =
    let found = YieldsList-from_slice (take c.args.entries c.args.roles.now) cc in
    any_from_yields_List of_variable _ _ c.any.result c.any.ensures.ran found (λ x b q k. search (rules, tests)) ∙ variable_found c.args.roles.now c.args.entries
