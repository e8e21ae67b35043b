-- `extinction::pixel_at` meets its contract, by the promises of the calls alone.
-- Assumes nothing.
use mathlib.Core.Path.{ap, ◌∙◌}
use borrow.Author.Rules.{rules}
use Rattle.layout.specs.Answers.{reply_is, reply}
use Rattle.layout.proofs.Replies.{handed-reply}
use Rattle.extinction.proofs.Calls.{refused-set, handed_out, no_record, reads}
use Rattle.extinction.proofs.pixel_at.Goals as goal

pub returns-in_err-entry : goal.returns-in_err-entry
unfolding reply_is
returns-in_err-entry c = handed-reply _ _ _ c.from_residual.ensures ∙ refused-set _ _ _ _ _ _ c.in_err-entry.ensures

pub returns-then-is_empty : goal.returns-then-is_empty
unfolding reply_is
returns-then-is_empty c =
    ap reply c.refuse.ensures.is ∙ no_record _ _ _ _ c.in_ok-entry.ensures _ c.record_part-bytes.ensures (search rules)

pub pixel_in-requires : goal.pixel_in-requires
unfolding reply_is
pixel_in-requires c = (handed_out _ _ 0 _ c.in_ok-entry.ensures _ c.record_part-bytes.ensures (search rules)).1.1

pub returns : goal.returns
unfolding reply_is
returns c = c.pixel_in.ensures ∙ reads _ _ _ _ c.in_ok-entry.ensures _ c.record_part-bytes.ensures (search rules)
