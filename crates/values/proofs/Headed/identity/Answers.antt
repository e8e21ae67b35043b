-- `values::Headed::identity` meets its contract: each value stands where its keyword's line has it.
-- Assumes nothing.
use Rattle.layout.specs.Text.{value_of, place_of, width_of, line_classes, value_classes, quote_width, value_width}
use Rattle.layout.specs.Lines.{mph}
use Rattle.layout.specs.Entries.{header_number}
use Rattle.values.specs.Header.{header_of}
use Rattle.values.proofs.Values.{one_byte}
use Rattle.values.proofs.Headed.identity.Goals as goal

pub returns : goal.returns
unfolding header_of header_number value_of place_of width_of mph line_classes value_classes quote_width value_width
returns c =
    λ j. record {
      product = c.bytes_at.ensures j;
      proc_stage = one_byte c.args.self.bytes.now 84 j;
      ref_doc = c.bytes_at-2.ensures j;
      acquisition_station = c.bytes_at-3.ensures j;
      proc_center = c.bytes_at-4.ensures j;
      proc_time = c.bytes_at-5.ensures j;
      software_ver = c.bytes_at-6.ensures j;
    }
