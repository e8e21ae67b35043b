-- `values::Headed::sensing` meets its contract: each value stands where its keyword's line has it.
-- Assumes nothing.
use mathlib.Core.Path.{◌∙◌}
use Rattle.layout.specs.Text.{value_of, place_of, width_of, line_classes, value_classes, quote_width, value_width}
use Rattle.layout.specs.Lines.{mph}
use Rattle.layout.specs.Entries.{header_number}
use Rattle.values.specs.Header.{header_of}
use Rattle.values.proofs.Values.{kept, one_byte}
use Rattle.values.proofs.Headed.sensing.Goals as goal

pub returns : goal.returns
unfolding header_of header_number value_of place_of width_of mph line_classes value_classes quote_width value_width
returns c =
    λ j. record {
      sensing_start = c.bytes_at.ensures j;
      sensing_stop = c.bytes_at-2.ensures j;
      phase = one_byte c.args.self.bytes.now 470 j;
      cycle = (kept c.whole_at.type_inv ∙ c.whole_at.ensures) j;
      rel_orbit = (kept c.whole_at-2.type_inv ∙ c.whole_at-2.ensures) j;
      abs_orbit = (kept c.whole_at-3.type_inv ∙ c.whole_at-3.ensures) j;
    }
