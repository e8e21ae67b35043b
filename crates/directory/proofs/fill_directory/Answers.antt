-- `directory::fill_directory` meets its contract.
-- Assumes nothing.
use Prim.Native.Nat.{ℕ}
use mathlib.Core.Path.{sym, ap, ◌∙◌}
use lib.ListN.{length, length-replicate}
use Rattle.layout.specs.declared.Directory.{Directory}
use Rattle.layout.specs.Answers.{directory_of}
use Rattle.writing.proofs.Puts.{fills}
use Rattle.directory.specs.Numbers.{directory_with}
use Rattle.directory.proofs.Texts.{names-long, filenames-long}
use Rattle.directory.proofs.fill_directory.Goals as goal

pub returns : goal.returns
unfolding directory_with directory_of
returns c =
    let args = c.args in
    let few = c.requires.1 in
    let names = fills c.put_names.ensures (names-long args.p.now args.from args.sets.now.entries few ∙ sym (ap (λ (d : Directory). length d.names) c.requires.2 ∙ length-replicate {A = ℕ} 3584 0)) in
    let filenames = fills c.put_filenames.ensures (filenames-long args.p.now args.from args.sets.now.entries few ∙ sym (ap (λ (d : Directory). length d.filenames) c.requires.2 ∙ length-replicate {A = ℕ} 7936 0)) in
    let ranks = c.rank_sets.ensures in
    λ j. record {
      entries = args.sets.now.entries;
      types = args.sets.now.types;
      names = names j;
      filenames = filenames j;
      offsets = args.sets.now.offsets;
      sizes = args.sets.now.sizes;
      counts = args.sets.now.counts;
      record_sizes = args.sets.now.record_sizes;
      ranks = ranks j;
    }
