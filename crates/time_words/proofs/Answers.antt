-- The words of each case of an answer, and how many they are.
-- Assumes nothing.
use Prim.Native.Nat.{ℕ}
use mathlib.Core.List.{List, [], ◌∷◌}
use mathlib.Core.Path.{◌≡◌, refl, sym, subst}
use lib.ListN.{length}
use Rattle.std.specs.Prelude.{Option, Some, None, Result, Ok, Err}
use Rattle.layout.specs.Answer.{Reply, refusal, is}
use Rattle.layout.specs.declared.Refusal.{Refusal}
use Rattle.layout.specs.declared.Time.{Time}
use Rattle.words.specs.Words.{word, verdict_words}
use Rattle.words.specs.Lent.{TwoRooms}
use Rattle.times.specs.Times.{Said, given, not_given, time_answer_is, text_bytes, TextAnswer, said_by}
use Rattle.layout.specs.Answers.{verdict_is, reply_is}
use Rattle.time_words.specs.TimeWords.{said_words, time_words, TextRooms}

pub refused_words : (a : Result (Option Time) Refusal) (r : Refusal) → a ≡ Err r → r.number ∷ r.place ∷ r.entry ∷ 0 ∷ 0 ∷ 0 ∷ 0 ∷ [] ≡ time_words (time_answer_is a)
unfolding time_words reply_is said_by
refused_words a r h = rw h

pub blank_words : (a : Result (Option Time) Refusal) → a ≡ Ok None → 0 ∷ 0 ∷ 0 ∷ 2 ∷ 0 ∷ 0 ∷ 0 ∷ [] ≡ time_words (time_answer_is a)
unfolding time_words said_words reply_is said_by
blank_words a h = rw h

pub given_words : (a : Result (Option Time) Refusal) (t : Time) (days : ℕ) → a ≡ Ok (Some t) → days ≡ word t.days
    → 0 ∷ 0 ∷ 0 ∷ 1 ∷ days ∷ t.seconds ∷ t.microseconds ∷ [] ≡ time_words (time_answer_is a)
unfolding time_words said_words reply_is said_by
given_words a t days h e = rw (h, e)

pub time_seven : (a : Reply Said) → length (time_words a) ≡ 7
unfolding time_words said_words
time_seven (refusal n p e) = refl
time_seven (is (given t)) = refl
time_seven (is not_given) = refl

-- a text put whole is what the time's text leaves
pub text-rooms : {s : Time} (t : Time) (a : Result (List ℕ) Refusal) {words words' text text' : List ℕ} {r : ℕ} → s ≡ t → TextAnswer s a
    → TwoRooms (verdict_words (verdict_is a)) words words' (text_bytes a) text text' r → TextRooms t words words' text text' r
text-rooms t a e asked put =
    let h = subst (λ (u : Time). TextAnswer u a) e asked in
    record { bytes = text_bytes a; are = h.text; rooms = rw (sym h.verdict) put }
