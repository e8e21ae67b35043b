-- `values::Headed::clock` meets its contract: each value stands where its keyword's line has it.
-- Assumes nothing.
use mathlib.Core.Path.{◌∙◌}
use Rattle.layout.specs.Text.{value_of, place_of, width_of, line_classes, value_classes, quote_width, value_width}
use Rattle.layout.specs.Lines.{mph}
use Rattle.layout.specs.Entries.{header_number}
use Rattle.values.specs.Header.{header_of}
use Rattle.values.proofs.Values.{kept, one_byte}
use Rattle.values.proofs.Headed.clock.Goals as goal

pub returns : goal.returns
unfolding header_of header_number value_of place_of width_of mph line_classes value_classes quote_width value_width
returns c =
    let binary = c.whole_at in
    let step = c.whole_at-2 in
    λ j. record {
      utc_sbt_time = c.bytes_at.ensures j;
      sat_binary_time = (kept binary.type_inv ∙ binary.ensures) j;
      clock_step = (kept step.type_inv ∙ step.ensures) j;
      leap_utc = c.bytes_at-2.ensures j;
      leap_sign = (kept c.whole_at-3.type_inv ∙ c.whole_at-3.ensures) j;
      leap_err = one_byte c.args.self.bytes.now 1009 j;
    }
