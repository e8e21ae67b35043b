-- The laws of a number's word, and the words of a place and of a field.
-- Assumes nothing.
use Prim.Native.Nat.{ℕ}
use mathlib.Core.Path.{◌≡◌, refl}
use native.Mathlib.Omega.{arith}
use lib.IntN.{ℤ, pos, negsuc}
use mir.Syntax.{w64}
use mir.Val.{of_z}
use mathlib.Core.List.{List, [], ◌∷◌, ◌++◌}
use Rattle.std.specs.Prelude.{Result, Ok, Err, MatchResult}
use Rattle.std.specs.Result.{result_unwrap_or}
use Rattle.layout.specs.Answers.{verdict_is, reply_is, place_is, field_is, field_answer_is}
use Rattle.layout.specs.declared.Refusal.{Refusal}
use Rattle.layout.specs.declared.Span.{Span}
use Rattle.layout.specs.declared.Field.{Field}
use Rattle.words.specs.Words.{word, verdict_words, place_words, value_words, field_words}

pub in_two's_complement : (z : ℤ) → of_z w64 z ≡ word z
unfolding word
in_two's_complement (pos n) = refl
in_two's_complement (negsuc n) = omega arith

-- ---- behind the refusal's words those of the value

abbrev pub no_span : Span
no_span = record { place = 0; length = 0 }

pub place-words : (a : Result Span Refusal) → verdict_words (verdict_is a) ++ ((result_unwrap_or a no_span).place ∷ (result_unwrap_or a no_span).length ∷ []) ≡ place_words (place_is a)
unfolding verdict_words verdict_is place_words reply_is
place-words (Ok s) = refl
place-words (Err r) = refl

pub field-words : (a : Result Field Refusal) (w : List ℕ) → MatchResult a (λ f. w ≡ value_words (field_is f)) (λ r. w ≡ 0 ∷ 0 ∷ 0 ∷ 0 ∷ []) → verdict_words (verdict_is a) ++ w ≡ field_words (field_answer_is a)
unfolding verdict_words verdict_is field_words reply_is
field-words (Ok f) w h = rw h
field-words (Err r) w h = rw h
