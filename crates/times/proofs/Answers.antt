-- The answer to a time: its text, or the refusal with zeros.
-- Assumes nothing.
use Prim.Native.Nat.{ℕ}
use mathlib.Core.Bool.{false, false≢true}
use mathlib.Core.List.{List}
use mathlib.Core.Path.{◌≡◌, refl, sym, ap, ◌∙◌}
use native.Mathlib.Omega.{arith}
use lib.Dec.{T}
use lib.IntN.{ℤ}
use mir.Syntax.{w32}
use mir.Val.{SFits, to_z, of_z}
use mir.Facts.{to_z-of_z}
use Rattle.std.specs.Prelude.{Ok, Err}
use Rattle.layout.specs.Answer.{is}
use Rattle.layout.specs.declared.Time.{Time}
use Rattle.layout.proofs.Tests.{is_true}
use Rattle.times.specs.declared.Moment.{Moment}
use Rattle.times.specs.Times.{valid_moment, time_of, text_of, moment_in, given, time_of_text, valid_time, text_bytes, TextAnswer}
use Rattle.times.proofs.Written.{text-long, is-formed, moment_back}
use Rattle.times.proofs.Moments.{Valid, valid, valid_day}
use Rattle.layout.specs.Answers.{verdict_is}
use Rattle.times.proofs.Said.{told, said_time}

-- a valid moment is read again from its text
pub read_back : (m : Moment) → Valid m → moment_in (text_of m) ≡ m
read_back m v =
    moment_back m v.date.january v.date.december (valid_day m v) (omega (arith, v.date.last)) (omega (arith, v.hour)) (omega (arith, v.minute)) (omega (arith, v.second))
    v.microsecond

-- and its text says its time
pub text_says : (m : Moment) → T (valid_moment m) → time_of_text (text_of m) ≡ is (given (time_of m))
text_says m h =
    let v = valid m h in
    let again = read_back m v in
    sym (said_time (text_of m) (text-long m v.date.january v.date.december) (told _ (is-formed m v.date.january v.date.december)) (rw again h))
    ∙ ap (λ (n : Moment). is (given (time_of n))) again

pub time-kept : (z : ℤ) (s u : ℕ) → SFits w32 z → ◌≡◌ {A = Time} (record { days = to_z w32 (of_z w32 z); seconds = s; microseconds = u }) (record { days = z; seconds = s; microseconds = u })
time-kept z s u f = λ j. record { days = to_z-of_z f j; seconds = s; microseconds = u }

module _ (t : Time) where
  pub refused-text : valid_time t ≡ false → TextAnswer t (Err (record { number = 31; place = 0; entry = 128 }))
  unfolding verdict_is text_bytes
  refused-text h = record { verdict = rw h; text = record { says = λ k. absurd (false≢true (sym h ∙ is_true (valid_time t) k)); none = λ k. refl } }

  pub given-text : (m : Moment) (text : List ℕ) → T (valid_time t) → T (valid_moment m) → time_of m ≡ t → text ≡ text_of m → TextAnswer t (Ok text)
  unfolding verdict_is text_bytes
  given-text m text h v e f = record {
    verdict = rw (is_true (valid_time t) h);
    text = record { says = λ k. ap time_of_text f ∙ text_says m v ∙ ap (λ (s : Time). is (given s)) e; none = λ k. absurd (false≢true (sym k ∙ is_true (valid_time t) h)) };
  }
