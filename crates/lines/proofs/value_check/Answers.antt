-- `lines::value_check` meets its contract: each kind by its spans.
-- Assumes nothing.
use Prim.Native.Nat.{◌-◌}
use mathlib.Core.Path.{sym, ◌∙◌}
use lib.Dec.{eqb→eq}
use Rattle.layout.specs.Text.{plain}
use Rattle.lines.specs.Table.{value_laid, width_fits}
use Rattle.lines.proofs.Spans.{run-checked, blanks-checked}
use Rattle.lines.proofs.Values.{one-good, one-bad}
use Rattle.lines.proofs.value_check.Goals as goal

pub returns-in-Text : goal.returns-in-Text
unfolding value_laid
returns-in-Text c = rw c.in-Text.is (run-checked _ _ _ _ _ _ c.end_or_bad.ensures plain c.first_not_plain.ensures)

pub returns-in-Spare : goal.returns-in-Spare
unfolding value_laid
returns-in-Spare c = rw c.in-Spare.is (blanks-checked _ _ _ _ _ _ c.end_or_bad-in-Spare.ensures c.first_not_blank.ensures)

pub returns-then-is_flag : goal.returns-then-is_flag
unfolding value_laid width_fits
returns-then-is_flag c =
    rw c.in-Flag.is (one-good _ _ _ _ (eqb→eq (c.args.to - c.args.from) 1 (rw c.in-Flag.is at c.requires.2)) (sym c.is_flag.ensures ∙ c.if-is_flag.true))

pub returns-else-is_flag : goal.returns-else-is_flag
unfolding value_laid width_fits
returns-else-is_flag c =
    rw c.in-Flag.is (one-bad _ _ _ _ (eqb→eq (c.args.to - c.args.from) 1 (rw c.in-Flag.is at c.requires.2)) (sym c.is_flag.ensures ∙ c.if-is_flag.false))

pub returns-then-is_type : goal.returns-then-is_type
unfolding value_laid width_fits
returns-then-is_type c =
    rw c.in-SetType.is (one-good _ _ _ _ (eqb→eq (c.args.to - c.args.from) 1 (rw c.in-SetType.is at c.requires.2)) (sym c.is_type.ensures ∙ c.if-is_type.true))

pub returns-else-is_type : goal.returns-else-is_type
unfolding value_laid width_fits
returns-else-is_type c =
    rw c.in-SetType.is (one-bad _ _ _ _ (eqb→eq (c.args.to - c.args.from) 1 (rw c.in-SetType.is at c.requires.2)) (sym c.is_type.ensures ∙ c.if-is_type.false))
