-- What the tests of a text say of its answer.
-- Assumes nothing.
use Prim.Native.Nat.{ℕ, ◌≤◌, ◌<◌}
use mathlib.Core.Bool.{Bool, true, false, not, false≢true}
use mathlib.Core.List.{List}
use mathlib.Core.Path.{◌≡◌, refl, sym, ap, ◌∙◌}
use native.Mathlib.Omega.{arith}
use lib.Dec.{T, eqb}
use lib.ListN.{length, get_or, get_or-replicate}
use lib.Seq.{ext_get_or}
use borrow.Author.Tests.{eqb-true}
use Rattle.layout.specs.Bytes.{part, byte_at}
use Rattle.layout.specs.Answer.{refusal, is}
use Rattle.layout.specs.Search.{find}
use Rattle.layout.proofs.Laws.{and_T, find-before}
use Rattle.layout.proofs.Tests.{is_true, is_false}
use Rattle.text.specs.Blanks.{not_blank}
use Rattle.times.specs.Times.{valid_moment, time_of, text_of, same_bytes, month_in, date_in, moment_in, valid_text, blank_text, not_given, given, time_of_text}
use Rattle.times.specs.Formed.{formed}
use Rattle.times.proofs.Months.{same_is, is_same}
use Rattle.times.proofs.Written.{text-long, is-formed, form, text_back}
use Rattle.times.proofs.Moments.{Valid, valid}

pub told : (t : Bool) → t ≡ true → T t
told t e = rw e tt

-- ---- valid texts

module _ (t : List ℕ) (h : T (valid_text t)) where
  both : T (valid_moment (moment_in t)) × T (same_bytes t (text_of (moment_in t)))
  unfolding valid_text
  both = (and_T (valid_moment (moment_in t)) (same_bytes t (text_of (moment_in t)))).0 h

  pub text_valid : Valid (moment_in t)
  text_valid = valid (moment_in t) both.0

  pub text-is : t ≡ text_of (moment_in t)
  text-is = same_is t (text_of (moment_in t)) both.1

  pub valid_long : length t ≡ 27
  valid_long = ap length text-is ∙ text-long (moment_in t) text_valid.date.january text_valid.date.december

  valid_formed : formed t ≡ true
  valid_formed = ap formed text-is ∙ is-formed (moment_in t) text_valid.date.january text_valid.date.december

-- ---- blanks

blanks-long : length blank_text ≡ 27
unfolding blank_text
blanks-long = refl

blanks_unformed : byte_at blank_text 2 ≡ 32
unfolding blank_text byte_at
blanks_unformed = refl

blanks-all : find (not_blank blank_text) 0 27 ≡ 27
unfolding blank_text find not_blank byte_at
blanks-all = refl

blank_at : (k : ℕ) → k < 27 → get_or blank_text k 0 ≡ 32
unfolding blank_text
blank_at k h = get_or-replicate 27 k 32 0 h

module _ (t : List ℕ) where
  formed-filled : T (formed t) → same_bytes t blank_text ≡ false
  formed-filled h = is_false (same_bytes t blank_text) (λ s. omega (arith, (form t h).dash, ap (λ (b : List ℕ). byte_at b 2) (same_is t blank_text s), blanks_unformed))

  other-long : (length t ≡ 27 → ⊥) → same_bytes t blank_text ≡ false
  other-long h = is_false (same_bytes t blank_text) (λ s. h (ap length (same_is t blank_text s) ∙ blanks-long))

  -- ---- the answers

  pub said_length : (length t ≡ 27 → ⊥) → refusal 30 0 128 ≡ time_of_text t
  unfolding time_of_text
  said_length h = rw (other-long h, is_false (valid_text t) (λ v. h (valid_long t v)))

  blank_byte : (k : ℕ) → not_blank t k ≡ false → byte_at t k ≡ 32
  unfolding not_blank
  blank_byte k h = go (eqb (byte_at t k) 32) refl h
    where
      go : (u : Bool) → eqb (byte_at t k) 32 ≡ u → not u ≡ false → byte_at t k ≡ 32
      go true e q = eqb-true (byte_at t k) 32 e
      go false e q = absurd (false≢true (sym q))

  december : Valid (moment_in t) → month_in (part t 3 3) ≤ 12
  unfolding moment_in date_in
  december v = v.date.december

  module _ (long : length t ≡ 27) where
    blank_is : find (not_blank t) 0 27 ≡ 27 → t ≡ blank_text
    unfolding byte_at
    blank_is h = ext_get_or 0 t blank_text (long ∙ sym blanks-long) (λ k u. blank_byte k (find-before (not_blank t) 0 27 k (omega arith) (omega arith)) ∙ sym (blank_at k (omega arith)))

    pub said_blank : find (not_blank t) 0 27 ≡ 27 → is not_given ≡ time_of_text t
    unfolding time_of_text
    said_blank h = rw (is_true (same_bytes t blank_text) (rw (blank_is h) (is_same blank_text)))

    pub said_unformed : formed t ≡ false → (find (not_blank t) 0 27 ≡ 27 → ⊥) → refusal 30 0 128 ≡ time_of_text t
    unfolding time_of_text
    said_unformed f h =
        let filled = is_false (same_bytes t blank_text) (λ s. h (ap (λ (b : List ℕ). find (not_blank b) 0 27) (same_is t blank_text s) ∙ blanks-all)) in
        rw (filled, is_false (valid_text t) (λ v. false≢true (sym f ∙ valid_formed t v)))

    pub said_invalid : T (formed t) → valid_moment (moment_in t) ≡ false → refusal 30 0 128 ≡ time_of_text t
    unfolding time_of_text valid_text
    said_invalid f h = rw (formed-filled f, h)

    pub said_time : T (formed t) → T (valid_moment (moment_in t)) → is (given (time_of (moment_in t))) ≡ time_of_text t
    unfolding time_of_text valid_text
    said_time f h =
        let again = text_back t long (form t f) (december (valid (moment_in t) h)) in
        rw (formed-filled f, is_true (valid_moment (moment_in t)) h, again, is_true (same_bytes t t) (is_same t))
