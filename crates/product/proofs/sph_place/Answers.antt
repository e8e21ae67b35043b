-- `product::sph_place` meets its contract.
-- Assumes nothing.
use Prim.Native.Nat.{ℕ}
use mathlib.Core.Path.{refl, sym, ap, ◌∙◌}
use native.Mathlib.Omega.{arith}
use Rattle.layout.specs.Answer.{is}
use Rattle.layout.specs.Answers.{reply_is, verdict_is}
use Rattle.layout.specs.Records.{sph_place}
use Rattle.layout.proofs.Replies.{handed-reply}
use Rattle.product.proofs.Calls.{now_dsds, lines_are}
use Rattle.product.proofs.sph_place.Goals as goal

pub returns-in_err-dsds : goal.returns-in_err-dsds
unfolding verdict_is sph_place
returns-in_err-dsds c = handed-reply _ _ _ c.from_residual.ensures ∙ rw (← c.in_err-dsds.ensures.judged)

pub overflow_sub-lines : goal.overflow_sub-lines
unfolding verdict_is
overflow_sub-lines c = let o = c.in_ok-dsds.ensures in omega (arith, (now_dsds _ _ (o.opens _ refl) (sym o.judged)).0)

pub returns : goal.returns
unfolding reply_is verdict_is sph_place
returns c =
    let o = c.in_ok-dsds.ensures in
    ap (λ (n : ℕ). is (record { place = 1247; length = n })) (lines_are _ _ (o.opens _ refl) (sym o.judged)) ∙ rw (← o.judged)
