-- `values::Headed::orbit` meets its contract: each value stands where its keyword's line has it.
-- Assumes nothing.
use mathlib.Core.Path.{◌∙◌}
use Rattle.layout.specs.Text.{value_of, place_of, width_of, line_classes, value_classes, quote_width, value_width}
use Rattle.layout.specs.Lines.{mph}
use Rattle.layout.specs.Entries.{header_number}
use Rattle.values.specs.Header.{header_of}
use Rattle.values.proofs.Values.{kept}
use Rattle.values.proofs.Headed.orbit.Goals as goal

pub returns : goal.returns
unfolding header_of header_number value_of place_of width_of mph line_classes value_classes quote_width value_width
returns c =
    let delta = c.whole_at in
    let x = c.whole_at-2 in
    let y = c.whole_at-3 in
    let z = c.whole_at-4 in
    let dx = c.whole_at-5 in
    let dy = c.whole_at-6 in
    λ j. record {
      state_vector_time = c.bytes_at.ensures j;
      delta_ut1 = (kept delta.type_inv ∙ delta.ensures) j;
      x_position = (kept x.type_inv ∙ x.ensures) j;
      y_position = (kept y.type_inv ∙ y.ensures) j;
      z_position = (kept z.type_inv ∙ z.ensures) j;
      x_velocity = (kept dx.type_inv ∙ dx.ensures) j;
      y_velocity = (kept dy.type_inv ∙ dy.ensures) j;
      z_velocity = (kept c.whole_at-7.type_inv ∙ c.whole_at-7.ensures) j;
      vector_source = c.bytes_at-2.ensures j;
    }
