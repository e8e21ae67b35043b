-- `product::point_at` meets its contract.
-- Assumes nothing.
use Prim.Native.Nat.{ℕ}
use mathlib.Core.List.{List}
use mathlib.Core.Path.{refl, ◌∙◌}
use Rattle.layout.specs.Fields.{point_in, point_reply}
use Rattle.layout.proofs.Replies.{handed-reply}
use Rattle.product.proofs.Calls.{in_product, record-within, reads_record, reads_nothing}
use Rattle.product.proofs.point_at.Goals as goal

pub returns-in_err-span : goal.returns-in_err-span
unfolding point_reply
returns-in_err-span c = handed-reply _ _ _ c.from_residual.ensures ∙ reads_nothing _ _ _ _ _ c.in_err-span.ensures

pub part_at-requires : goal.part_at-requires
part_at-requires c = in_product _ _ _ c.in_ok-span.ensures (record-within _ _ _) _ refl

pub returns : goal.returns
unfolding point_reply
returns c =
    let a = c.args in
    c.point_in.ensures ∙ reads_record _ _ _ (λ (l : List ℕ). point_in l a.entry a.latitude a.longitude a.altitude) _ c.in_ok-span.ensures c.part_at.ensures
