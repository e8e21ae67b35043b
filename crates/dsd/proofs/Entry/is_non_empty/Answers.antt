-- `dsd::Entry::is_non_empty` meets its contract.
-- Assumes nothing.
use borrow.Author.Rules.{rules}
use Rattle.dsd.proofs.Fits.{non_empty_by}
use Rattle.dsd.proofs.Entry.is_non_empty.Goals as goal

pub returns : goal.returns
returns c = search (non_empty_by, rules)
