-- The words of each case of a pixel's answer, and how many they are.
-- Assumes nothing.
use Prim.Native.Nat.{ℕ}
use mathlib.Core.List.{[], ◌∷◌}
use mathlib.Core.Path.{◌≡◌, refl}
use lib.ListN.{length}
use Rattle.std.specs.Prelude.{Float, Result, Ok, Err, MatchResult}
use Rattle.layout.specs.Answer.{Reply, refusal, is}
use Rattle.layout.specs.declared.Refusal.{Refusal}
use Rattle.words.specs.Words.{word, zero_float}
use Rattle.extinction.specs.declared.Pixel.{Pixel}
use Rattle.extinction.specs.Extinction.{pixel_answer_is}
use Rattle.layout.specs.Answers.{reply_is}
use Rattle.extinction_words.specs.PixelWords.{value_words, pixel_words, model_double}

pub no_pixel_words : (a : Result Pixel Refusal) (r : Refusal) → a ≡ Err r → r.number ∷ r.place ∷ r.entry ∷ 0 ∷ 0 ∷ 0 ∷ 0 ∷ 0 ∷ 0 ∷ 0 ∷ 0 ∷ [] ≡ pixel_words (pixel_answer_is a)
unfolding pixel_words reply_is
no_pixel_words a r h = rw h

pub pixel-words : (a : Result Pixel Refusal) (x : Pixel) → a ≡ Ok x → 0 ∷ 0 ∷ 0 ∷ value_words x ≡ pixel_words (pixel_answer_is a)
unfolding pixel_words reply_is
pixel-words a x h = rw h

pub the_model : (a : Result Pixel Refusal) (m : Float) → MatchResult a (λ x. m ≡ x.model) (λ r. m ≡ zero_float) → m ∷ [] ≡ model_double (pixel_answer_is a)
unfolding model_double reply_is
the_model (Ok x) m h = rw h
the_model (Err r) m h = rw h

pub values_are : (x : Pixel) (days quality : ℕ) → days ≡ word x.time.days → quality ≡ word x.quality
    → days ∷ x.time.seconds ∷ x.time.microseconds ∷ quality ∷ x.transmission.bits ∷ x.covariance.bits ∷ x.model_code ∷ x.flag ∷ [] ≡ value_words x
unfolding value_words
values_are x days quality d q = rw (d, q)

pub pixel_eleven : (a : Reply Pixel) → length (pixel_words a) ≡ 11
unfolding pixel_words value_words
pixel_eleven (refusal n p e) = refl
pixel_eleven (is x) = refl

pub model-one : (a : Reply Pixel) → length (model_double a) ≡ 1
unfolding model_double
model-one (refusal n p e) = refl
model-one (is x) = refl
