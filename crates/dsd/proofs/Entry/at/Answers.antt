-- `dsd::Entry::at` meets its contract: a spare's entry is known, another's is read.
-- Assumes nothing.
use Rattle.layout.specs.Bytes.{byte_at}
use Rattle.dsd.proofs.Places.{read_entry, read-spare}
use Rattle.dsd.proofs.Entry.at.Goals as goal

pub returns-then-p-start-eq32 : goal.returns-then-p-start-eq32
unfolding byte_at
returns-then-p-start-eq32 c = read-spare _ _ c.spare.ensures (c.requires.1 c.if-p-start-eq32.true)

pub returns : goal.returns
returns c =
    read_entry c.args.p.now (λ k. (c.shared_slice_known-1.given k).fits) c.args.start c.requires.0 c.number_at.ensures c.number_at-2.ensures
    c.number_at-3.ensures c.number_at-4.ensures c.role_of_name.ensures
