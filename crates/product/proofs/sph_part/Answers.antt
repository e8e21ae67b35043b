-- `product::sph_part` meets its contract.
-- Assumes nothing.
use mathlib.Core.Path.{◌∙◌}
use Rattle.product.proofs.Calls.{in_product, part-is, no_part, sph_within}
use Rattle.product.proofs.sph_part.Goals as goal

pub part_at-requires : goal.part_at-requires
part_at-requires c = in_product c.args.p.now _ _ c.sph_place.ensures (sph_within _) _ c.in-Ok.is

pub returns-in-Ok : goal.returns-in-Ok
returns-in-Ok c = c.part_at.ensures ∙ part-is _ _ _ c.sph_place.ensures _ c.in-Ok.is

pub returns-in-Err : goal.returns-in-Err
returns-in-Err c = no_part _ _ _ c.sph_place.ensures _ c.in-Err.is
