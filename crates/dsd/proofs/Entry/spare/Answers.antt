-- `dsd::Entry::spare` meets its contract.
-- Assumes nothing.
use Rattle.dsd.proofs.Places.{held-spare}
use Rattle.dsd.proofs.Entry.spare.Goals as goal

pub returns : goal.returns
returns c = held-spare
