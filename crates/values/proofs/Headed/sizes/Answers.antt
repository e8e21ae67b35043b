-- `values::Headed::sizes` meets its contract: each value stands where its keyword's line has it.
-- Assumes nothing.
use mathlib.Core.Path.{◌∙◌}
use native.Mathlib.Omega.{arith}
use Rattle.layout.specs.Text.{value_of, place_of, width_of, line_classes, value_classes, quote_width, value_width}
use Rattle.layout.specs.Lines.{mph}
use Rattle.layout.specs.Entries.{header_number}
use Rattle.values.specs.Header.{header_of}
use Rattle.values.proofs.Places.{total_at}
use Rattle.values.proofs.Values.{kept, one_byte}
use Rattle.values.proofs.Headed.sizes.Goals as goal

pub whole_at-requires : goal.whole_at-requires
whole_at-requires c = (omega arith, omega arith, λ l. rw (total_at c.args.self.bytes.now) at c.requires)

pub returns : goal.returns
unfolding header_of header_number value_of place_of width_of mph line_classes value_classes quote_width value_width
returns c =
    let total = c.whole_at in
    let sph = c.whole_at-2 in
    let dsds = c.whole_at-3 in
    λ j. record {
      product_err = one_byte c.args.self.bytes.now 1064 j;
      tot_size = (kept total.type_inv ∙ total.ensures) j;
      sph_size = (kept sph.type_inv ∙ sph.ensures) j;
      num_dsd = (kept dsds.type_inv ∙ dsds.ensures) j;
      dsd_size = (kept c.whole_at-4.type_inv ∙ c.whole_at-4.ensures) j;
      num_data_sets = (kept c.whole_at-5.type_inv ∙ c.whole_at-5.ensures) j;
    }
