-- `product::record_place` meets its contract.
-- Assumes nothing.
use mathlib.Core.Path.{refl, sym, ◌∙◌}
use Rattle.layout.specs.Answers.{verdict_is}
use Rattle.layout.specs.Records.{record_refusal, record_place}
use Rattle.layout.proofs.Replies.{handed-reply}
use Rattle.product.proofs.Calls.{now_open}
use Rattle.product.proofs.record_place.Goals as goal

pub returns-in_err-open_sets : goal.returns-in_err-open_sets
unfolding verdict_is record_place record_refusal
returns-in_err-open_sets c = handed-reply _ _ _ c.from_residual.ensures ∙ rw (← c.in_err-open_sets.ensures.judged)

pub place_of_record-requires : goal.place_of_record-requires
unfolding verdict_is
place_of_record-requires c = let o = c.in_ok-open_sets.ensures in now_open _ _ (o.opens _ refl) (sym o.judged)
