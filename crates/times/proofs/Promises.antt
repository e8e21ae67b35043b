-- Theorems over the two calls, from their promises alone: whatever results they allow.
-- Assumes nothing.
use Prim.Native.Nat.{ℕ}
use mathlib.Core.Bool.{Bool, true, false, cond}
use mathlib.Core.List.{List}
use mathlib.Core.Path.{◌≡◌, refl, sym, ap, ◌∙◌}
use native.Mathlib.Omega.{arith}
use lib.Dec.{T}
use lib.ListN.{length, replicate, length-replicate}
use Rattle.std.specs.Prelude.{Option, Some, None, Result, Ok, Err}
use Rattle.layout.specs.Bytes.{byte_at}
use Rattle.layout.specs.Answer.{accepted, need, none, refusal, is, ◌else◌}
use Rattle.layout.specs.declared.Refusal.{Refusal}
use Rattle.layout.specs.declared.Time.{Time}
use Rattle.layout.specs.Answers.{reply_is, verdict_is}
use Rattle.layout.proofs.Maps.{one-result, one-reply}
use Rattle.layout.proofs.Tests.{is_true}
use Rattle.times.specs.Times.{time_of, text_of, same_bytes, moment_in, valid_text, blank_text, not_given, given, time_of_text, time_answer_is, valid_time, TextIs, text_bytes, TextAnswer, said_by}
use Rattle.times.specs.Order.{time_order, moment_order}
use Rattle.times.proofs.Months.{same_is, is_same}
use Rattle.times.proofs.Numbers.{timed}
use Rattle.times.proofs.Moments.{Valid, time_valid, moment_with}
use Rattle.times.proofs.Said.{text_valid, text-is, valid_long}
use Rattle.times.proofs.Answers.{text_says}
use Rattle.times.proofs.Order.{same_order, one_moment}

-- ---- what a text says

given_is : (blank valid : Bool) (t u : Time) → cond blank (is not_given) (need valid 30 0 none else given t) ≡ is (given u) → T valid × (t ≡ u)
given_is true valid t u h = absurd (let z : ◌≡◌ {A = ℕ} 0 1 = cc in omega arith)
given_is false true t u h = (tt, cc)
given_is false false t u h = absurd (let z : ◌≡◌ {A = ℕ} 0 1 = cc in omega arith)

module _ (t : List ℕ) (s : Time) (h : time_of_text t ≡ is (given s)) where
  both : T (valid_text t) × (time_of (moment_in t) ≡ s)
  unfolding time_of_text
  both = given_is (same_bytes t blank_text) (valid_text t) (time_of (moment_in t)) s h

  moment : Valid (moment_in t)
  moment = text_valid t both.0

  -- a text that has a time has 27 bytes, and the time is of the range
  pub text_27 : length t ≡ 27
  text_27 = valid_long t both.0

  pub time_in_range : T (valid_time s)
  time_in_range = rw (sym both.1) (time_valid (moment_in t) moment)

-- two texts that say one time are one
same_text : (t u : List ℕ) (s : Time) → time_of_text t ≡ is (given s) → time_of_text u ≡ is (given s) → t ≡ u
same_text t u s h k =
    let e = one_moment (moment_in t) (moment_in u) (moment t s h) (moment u s k) ((both t s h).1 ∙ sym (both u s k).1) in
    text-is t (both t s h).0 ∙ ap text_of e ∙ sym (text-is u (both u s k).0)

-- ---- two results are equal

one_said : (x y : Option Time) → said_by x ≡ said_by y → x ≡ y
unfolding said_by
one_said None None h = refl
one_said None (Some t) h = cc
one_said (Some t) None h = cc
one_said (Some t) (Some u) h = ap Some (cc)

pub one_time : (t : List ℕ) (x y : Result (Option Time) Refusal) → time_answer_is x ≡ time_of_text t → time_answer_is y ≡ time_of_text t → x ≡ y
one_time t x y h k = one-result said_by one_said x y (h ∙ sym k)

one-bytes : (s : Time) (t u : List ℕ) → TextIs s t → TextIs s u → t ≡ u
one-bytes s t u p q = go (valid_time s) refl
  where
    go : (v : Bool) → valid_time s ≡ v → t ≡ u
    go true e = let h : T (valid_time s) = rw e tt in same_text t u s (p.says h) (q.says h)
    go false e = p.none e ∙ sym (q.none e)

one_result : (x y : Result (List ℕ) Refusal) → verdict_is x ≡ verdict_is y → text_bytes x ≡ text_bytes y → x ≡ y
unfolding verdict_is text_bytes reply_is
one_result (Ok t) (Ok u) h k = ap Ok k
one_result (Ok t) (Err s) h k = cc
one_result (Err r) (Ok u) h k = cc
one_result (Err r) (Err s) h k = one-reply (Err r) (Err s) (cc)

pub one-text : (s : Time) (x y : Result (List ℕ) Refusal) → TextAnswer s x → TextAnswer s y → x ≡ y
one-text s x y p q = one_result x y (p.verdict ∙ sym q.verdict) (one-bytes s (text_bytes x) (text_bytes y) p.text q.text)

-- ---- there and back

-- a text that has a time is that time's text
pub text_again : (t : List ℕ) (s : Time) (r : Result (List ℕ) Refusal) → time_of_text t ≡ is (given s) → TextAnswer s r → (verdict_is r ≡ accepted) × (text_bytes r ≡ t)
text_again t s r h p =
    let v = time_in_range t s h in
    (p.verdict ∙ rw (is_true (valid_time s) v), same_text (text_bytes r) t s (p.text.says v) h)

-- a time of the range is the time of its text
pub time_again : (s : Time) (r : Result (List ℕ) Refusal) (a : Result (Option Time) Refusal) → T (valid_time s) → TextAnswer s r → time_answer_is a ≡ time_of_text (text_bytes r) → a ≡ Ok (Some s)
unfolding reply_is said_by
time_again s r a h p q = one-result said_by one_said a (Ok (Some s)) (q ∙ p.text.says h)

-- each time of the range has a text
pub has_text : (s : Time) → T (valid_time s) → (t : List ℕ) × (time_of_text t ≡ is (given s))
has_text s h =
    let m = moment_with s (timed s h) in
    (text_of m.0, text_says m.0 m.1.0 ∙ ap (λ (t : Time). is (given t)) m.1.1)

-- ---- not given

pub blank_not_given : time_of_text blank_text ≡ is not_given
unfolding time_of_text
blank_not_given = rw (is_true (same_bytes blank_text blank_text) (is_same blank_text))

pub only_blank : (t : List ℕ) → time_of_text t ≡ is not_given → t ≡ blank_text
unfolding time_of_text
only_blank t h = go (same_bytes t blank_text) refl (valid_text t) h
  where
    go : (u : Bool) → same_bytes t blank_text ≡ u → (v : Bool) → cond u (is not_given) (need v 30 0 none else given (time_of (moment_in t))) ≡ is not_given → t ≡ blank_text
    go true e v k = same_is t blank_text (rw e tt)
    go false e true k = absurd (let z : ◌≡◌ {A = ℕ} 0 1 = cc in omega arith)
    go false e false k = absurd (let z : ◌≡◌ {A = ℕ} 0 1 = cc in omega arith)

zeros_first : byte_at (replicate 27 0) 0 ≡ 0
unfolding byte_at
zeros_first = refl

blanks-first : byte_at blank_text 0 ≡ 32
unfolding byte_at blank_text
blanks-first = refl

-- no time has blanks for its text
pub no_time_blank : (s : Time) (r : Result (List ℕ) Refusal) → TextAnswer s r → text_bytes r ≡ blank_text → ⊥
no_time_blank s r p e = go (valid_time s) refl
  where
    go : (v : Bool) → valid_time s ≡ v → ⊥
    go true h = let said = sym (p.text.says (rw h tt)) ∙ ap time_of_text e ∙ blank_not_given in let z : ◌≡◌ {A = ℕ} 0 1 = cc in omega arith
    go false h = omega (arith, sym zeros_first ∙ ap (λ (t : List ℕ). byte_at t 0) (sym (p.text.none h) ∙ e) ∙ blanks-first)

-- ---- refusals, and how long a text is

pub refused_30 : (t : List ℕ) (n p e : ℕ) → time_of_text t ≡ refusal n p e → (n ≡ 30) × ((p ≡ 0) × (e ≡ 128))
unfolding time_of_text
refused_30 t n p e h = go (same_bytes t blank_text) (valid_text t) h
  where
    go : (u v : Bool) → cond u (is not_given) (need v 30 0 none else given (time_of (moment_in t))) ≡ refusal n p e → (n ≡ 30) × ((p ≡ 0) × (e ≡ 128))
    go true v k = absurd (let z : ◌≡◌ {A = ℕ} 0 1 = cc in omega arith)
    go false true k = absurd (let z : ◌≡◌ {A = ℕ} 0 1 = cc in omega arith)
    go false false k = (cc, (cc, cc))

pub bytes_27 : (s : Time) (t : List ℕ) → TextIs s t → length t ≡ 27
bytes_27 s t p = go (valid_time s) refl
  where
    go : (v : Bool) → valid_time s ≡ v → length t ≡ 27
    go true e = text_27 t s (p.says (rw e tt))
    go false e = ap length (p.none e) ∙ length-replicate {A = ℕ} 27 0

-- ---- order

-- two texts' times are in the order of what the texts say: of year, month, day, hour, minute, second and microsecond
pub times_in_order : (t u : List ℕ) (r s : Time) → time_of_text t ≡ is (given r) → time_of_text u ≡ is (given s) → time_order r s ≡ moment_order (moment_in t) (moment_in u)
times_in_order t u r s h k =
    sym (λ j. time_order ((both t r h).1 j) ((both u s k).1 j)) ∙ same_order (moment_in t) (moment_in u) (moment t r h) (moment u s k)
