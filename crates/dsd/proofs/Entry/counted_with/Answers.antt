-- `dsd::Entry::counted_with` meets its contract.
-- Assumes nothing.
use mathlib.Core.Path.{sym, ◌∙◌}
use native.Mathlib.Nat.{add-zero}
use Rattle.dsd.proofs.Entry.counted_with.Goals as goal

pub returns-then-is_non_empty : goal.returns-then-is_non_empty
returns-then-is_non_empty c = rw (sym c.is_non_empty.ensures ∙ c.if-is_non_empty.true)

pub returns : goal.returns
returns c = rw (sym c.is_non_empty.ensures ∙ c.if-is_non_empty.false) (sym (add-zero c.args.counted))
