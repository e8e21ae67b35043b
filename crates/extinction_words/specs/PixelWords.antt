-- A pixel of residual extinction as a host gets it: 11 words of 64 bits and one double, whatever is answered.
-- Assumes nothing.
use Rattle.std.specs.Prelude.{ℕ, List, [], ◌∷◌, Float}
use Rattle.layout.specs.Answer.{Reply, refusal, is}
use Rattle.words.specs.Words.{word, zero_float}
use Rattle.words.specs.Lent.{TwoRooms}
use Rattle.extinction.specs.declared.Pixel.{Pixel}

-- days, seconds, microseconds, quality, the bits of transmission and covariance, model code, flag
unfoldable pub value_words : Pixel → List ℕ
value_words x =
    word x.time.days ∷ x.time.seconds ∷ x.time.microseconds ∷ word x.quality
    ∷ x.transmission.bits ∷ x.covariance.bits ∷ x.model_code ∷ x.flag ∷ []

-- behind number, place and entry, or three zeros
unfoldable pub pixel_words : Reply Pixel → List ℕ
pixel_words (refusal n p e) = n ∷ p ∷ e ∷ 0 ∷ 0 ∷ 0 ∷ 0 ∷ 0 ∷ 0 ∷ 0 ∷ 0 ∷ []
pixel_words (is x) = 0 ∷ 0 ∷ 0 ∷ value_words x

-- the model, or zero
unfoldable pub model_double : Reply Pixel → List Float
model_double (refusal n p e) = zero_float ∷ []
model_double (is x) = x.model ∷ []

-- what is left in the two rooms lent for them, and what is returned
abbrev pub PixelRooms : Reply Pixel → (words words' : List ℕ) (model model' : List Float) (r : ℕ) → Type 0
PixelRooms a words words' model model' r = TwoRooms (pixel_words a) words words' (model_double a) model model' r
