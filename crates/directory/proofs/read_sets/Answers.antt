-- `directory::read_sets` meets its contract: the arrays lent hold the entries read so far, and the counts are those of the entries read so far.
-- Assumes nothing.
use Prim.Native.Nat.{◌<◌}
use mathlib.Core.Path.{◌≡◌, sym, ap, ◌∙◌}
use native.Mathlib.Omega.{arith}
use mir.Syntax.{w64}
use mir.Facts.{to_z-of_z}
use lib.IntN.{pos}
use lib.ListN.{length}
use Rattle.layout.specs.Search.{find, count}
use Rattle.layout.specs.Entries.{entries_from, non_empty_at}
use Rattle.layout.specs.Rules.{data_sets}
use Rattle.layout.specs.Text.{whole}
use Rattle.layout.specs.Answers.{type_of, count_of, record_size_of}
use Rattle.layout.proofs.Laws.{nothing-counted, count_next}
use Rattle.layout.proofs.Padded.{none-held, one-held}
use Rattle.layout.proofs.Sound.{length-entries}
use Rattle.text.specs.Numbers.{whole_in}
use Rattle.dsd.specs.Held.{held_of, view_of, role_of}
use Rattle.dsd.specs.declared.Entry.{Entry as HeldEntry}
use Rattle.dsd.specs.declared.Role.TheVariants.{Other}
use Rattle.directory.specs.Numbers.{held_start, held_extent, held_role}
use Rattle.directory.specs.Checks.{over_at, unfit_at}
use Rattle.directory.specs.declared.Sets.{Sets}
use Rattle.directory.proofs.Loops.{none_found, row_next}
use Rattle.directory.proofs.Held.{held-is, over_is, fits-is, counted_is, of_entry, all_held, all_read}
use Rattle.directory.proofs.read_sets.Goals as goal

pub loop-i-init : goal.loop-i-init
loop-i-init c =
    let b = c.args.p.now in
    let from = c.args.from in
    let n = c.args.n in
    let zeros = c.requires.3 in (
      none_found (over_at (entries_from b from n)),
      none_found (unfit_at (entries_from b from n)),
      omega arith,
      nothing-counted (non_empty_at (entries_from b from n)),
      ap (λ (s : Sets). s.types) zeros ∙ none-held (of_entry type_of 0 b from n) 0,
      ap (λ (s : Sets). s.offsets) zeros ∙ none-held (of_entry held_start 0 b from n) 0,
      ap (λ (s : Sets). s.sizes) zeros ∙ none-held (of_entry held_extent 0 b from n) 0,
      ap (λ (s : Sets). s.counts) zeros ∙ none-held (of_entry count_of 0 b from n) 0,
      ap (λ (s : Sets). s.record_sizes) zeros ∙ none-held (of_entry record_size_of (pos 0) b from n) (pos 0),
      ap (λ (s : Sets). s.roles) zeros ∙ none-held (of_entry held_role Other b from n) Other,
    )

pub at-entry-requires : goal.at-entry-requires
at-entry-requires c = (omega arith, c.requires.2 _ (omega arith))

pub whole-requires : goal.whole-requires
whole-requires c = c.at-entry.ensures.small

pub loop-i-preserved : goal.loop-i-preserved
unfolding held_of whole_in whole
loop-i-preserved c =
    let l = c.loop-i in
    let args = c.args in
    let b = args.p.now in
    let from = args.from in
    let n = args.n in
    let read = c.at-entry in
    let entry = read.result in
    let more : l.i < n = omega arith in
    let few : l.i < 128 = omega (arith, c.requires.1) in
    let is = held-is b from n l.i more entry read.ensures in
    let counted = count_next (non_empty_at (entries_from b from n)) l.counted l.i l.invariant.3 l.invariant.2 (c.counted_with-counted.ensures ∙ rw (counted_is b from n l.i more entry read.ensures)) in (
      row_next (over_at (entries_from b from n)) l.within l.i _ l.invariant.0 (over_is b from n l.i more entry read.ensures c.is_over.ensures) c.row_with-within.ensures,
      row_next (unfit_at (entries_from b from n)) l.fitting l.i _ l.invariant.1 (fits-is b from n l.i more entry read.ensures c.numbers_fit.ensures) c.row_with-fitting.ensures,
      counted.1,
      counted.0,
      one-held (of_entry type_of 0 b from n) 0 l.sets.types l.i _ few l.invariant.4 (ap (λ (h : HeldEntry). h.ds_type) is),
      one-held (of_entry held_start 0 b from n) 0 l.sets.offsets l.i _ few l.invariant.5 (ap (λ (h : HeldEntry). h.offset.magnitude) is),
      one-held (of_entry held_extent 0 b from n) 0 l.sets.sizes l.i _ few l.invariant.6 (ap (λ (h : HeldEntry). h.size.magnitude) is),
      one-held (of_entry count_of 0 b from n) 0 l.sets.counts l.i _ few l.invariant.7 (ap (λ (h : HeldEntry). h.count.magnitude) is),
      one-held (of_entry record_size_of (pos 0) b from n) (pos 0) l.sets.record_sizes l.i _ few l.invariant.8 (to_z-of_z {w = w64} (record { sfits = c.whole.type_inv }) ∙ c.whole.ensures ∙ ap (λ (h : HeldEntry). whole_in h.record_size) is),
      one-held (of_entry held_role Other b from n) Other l.sets.roles l.i _ few l.invariant.9 (c.role.ensures ∙ ap (λ (h : HeldEntry). role_of (view_of h)) is),
    )

pub returns : goal.returns
unfolding data_sets
returns c =
    let l = c.loop-i in
    let args = c.args in
    let b = args.p.now in
    let from = args.from in
    let n = args.n in
    let ds = entries_from b from n in
    let e : l.i ≡ n = omega arith in
    let all : l.i ≡ length ds = e ∙ sym (length-entries b from n) in record {
      counted = record { nine = l.invariant.0 ∙ ap (find (over_at ds) 0) all; ten = l.invariant.1 ∙ ap (find (unfit_at ds) 0) all; eleven = l.invariant.3 ∙ ap (count (non_empty_at ds) 0) all };
      held = all_read b from n (all_held type_of 0 b from n l.i e l.invariant.4) (all_held held_start 0 b from n l.i e l.invariant.5) (all_held held_extent 0 b from n l.i e l.invariant.6) (all_held count_of 0 b from n l.i e l.invariant.7) (all_held record_size_of (pos 0) b from n l.i e l.invariant.8) (all_held held_role Other b from n l.i e l.invariant.9);
    }
