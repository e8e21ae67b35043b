-- `times::texts::misfit` meets its contract.
-- Assumes nothing.
use Rattle.layout.specs.Bytes.{byte_at}
use Rattle.times.specs.Formed.{lowest, highest}
use Rattle.times.proofs.Blocks.{place_short}
use Rattle.times.proofs.texts.misfit.Goals as goal

pub returns : goal.returns
unfolding lowest highest byte_at
returns c = place_short c.args.text.now c.args.at c.saturating_sub.ensures c.saturating_sub-2.ensures
