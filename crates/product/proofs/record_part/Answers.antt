-- `product::record_part` meets its contract.
-- Assumes nothing.
use mathlib.Core.Path.{◌∙◌}
use Rattle.product.proofs.Calls.{in_product, part-is, no_part, record-within}
use Rattle.product.proofs.record_part.Goals as goal

pub part_at-requires : goal.part_at-requires
part_at-requires c = in_product c.args.p.now _ _ c.record_place.ensures (record-within _ _ _) _ c.in-Ok.is

pub returns-in-Ok : goal.returns-in-Ok
returns-in-Ok c = c.part_at.ensures ∙ part-is _ _ _ c.record_place.ensures _ c.in-Ok.is

pub returns-in-Err : goal.returns-in-Err
returns-in-Err c = no_part _ _ _ c.record_place.ensures _ c.in-Err.is
