-- `extinction::read_pixel` meets its contract: every value stands in the record. Assumes nothing.
use mathlib.Core.Path.{ap, ◌∙◌}
use mir.Syntax.{w8, w64}
use mir.Val.{to_z, of_z, SFits}
use mir.Facts.{to_z-of_z}
use borrow.Author.Rules.{rules, sfits_of}
use Rattle.extinction.specs.Extinction.{model_of, pixel_of}
use Rattle.extinction.proofs.read_pixel.Goals as goal

pub returns : goal.returns
unfolding pixel_of
returns c =
    let code = c.unsigned-model_code.ensures.0 in
    let quality = to_z-of_z (let f : SFits w8 (to_z w64 (of_z w64 c.signed-quality.result)) = search rules in f) ∙ to_z-of_z {w = w64} (sfits_of c.signed-quality.type_inv) ∙ c.signed-quality.ensures.0 in
    λ j. record {
      time = c.time_at-time.ensures j;
      quality = quality j;
      transmission = c.single_at-transmission.ensures j;
      covariance = c.single_at-covariance.ensures j;
      model_code = code j;
      model = (c.model_of.ensures ∙ ap model_of code) j;
      flag = c.unsigned-flag.ensures.0 j;
    }
