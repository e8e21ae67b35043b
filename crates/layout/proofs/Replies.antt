-- The laws of replies: what it says that a reply is a value, or a refusal; and how high the number of a refusal goes.
-- Assumes nothing.
use Prim.Native.Nat.{ℕ, ◌≤◌}
use Rattle.std.specs.Prelude.{Result, Ok, Err, IsErr, IsErrAnd}
use Rattle.std.proofs.lemmas.Result.{err_from_is_err_and}
use mathlib.Core.Bool.{Bool, true, false}
use mathlib.Core.Logic.{◌⊎◌, inl, inr}
use mathlib.Core.Path.{◌≡◌, refl, sym, ap, ◌∙◌}
use native.Mathlib.Omega.{arith}
use Rattle.layout.specs.Answer.{Answer, accepted, refused, need, Reply, refusal, is, ◌or_else◌, ◌else◌, ◌before◌}
use Rattle.layout.specs.Answers.{reply_is, verdict_is}
use Rattle.layout.specs.declared.Refusal.{Refusal}
use Rattle.layout.proofs.Laws.{accepted≢refused}

-- ---- what a result tells of the answer that it is

module _ {A : Type 0} where
  pub told-refused : (v : Result A Refusal) (r : Refusal) (a : Answer) → v ≡ Err r → verdict_is v ≡ a → a ≡ refused r.number r.place r.entry
  unfolding verdict_is
  told-refused v r a q h = sym h ∙ rw q

  pub told-accepted : (v : Result A Refusal) (x : A) (a : Answer) → v ≡ Ok x → verdict_is v ≡ a → a ≡ accepted
  unfolding verdict_is
  told-accepted v x a q h = sym h ∙ rw q

  -- what a `?` hands on is the refusal that it met
  pub handed_on : (r : Result A Refusal) (f : Refusal) → IsErr r × IsErrAnd r (λ g. g ≡ f) → r ≡ Err f
  handed_on r f h = let e = err_from_is_err_and r h.1 in e.1 ∙ ap Err e.2

  pub handed-verdict : (r : Result A Refusal) (f : Refusal) → IsErr r × IsErrAnd r (λ g. g ≡ f) → verdict_is r ≡ refused f.number f.place f.entry
  unfolding verdict_is
  handed-verdict r f h = rw (handed_on r f h)

  pub handed-reply : {B : Type 0} (says : A → B) (r : Result A Refusal) (f : Refusal) → IsErr r × IsErrAnd r (λ g. g ≡ f) → reply_is says r ≡ refusal f.number f.place f.entry
  unfolding reply_is
  handed-reply says r f h = rw (handed_on r f h)

-- ---- a reply's value

module _ {A : Type 0} where
  pub refusal≢is : (n p e : ℕ) (x : A) → refusal n p e ≡ is x → ⊥
  refusal≢is n p e x h = let z : ◌≡◌ {A = ℕ} 0 1 = cc in omega arith

  -- an answer that hands out a value accepts, and the value is its own
  pub else_is : (a : Answer) (x y : A) → (a else x) ≡ is y → (a ≡ accepted) × (x ≡ y)
  else_is accepted x y h = (refl, cc)
  else_is (refused n p e) x y h = absurd (refusal≢is n p e y h)

  pub else_refusal : (a : Answer) (x : A) (n p e : ℕ) → (a else x) ≡ refusal n p e → a ≡ refused n p e
  else_refusal accepted x n p e h = absurd (refusal≢is n p e x (sym h))
  else_refusal (refused n' p' e') x n p e h = cc

  pub before-is : (a : Answer) (r : Reply A) (y : A) → (a before r) ≡ is y → (a ≡ accepted) × (r ≡ is y)
  before-is accepted r y h = (refl, h)
  before-is (refused n p e) r y h = absurd (refusal≢is n p e y h)

  pub before-refusal : (a : Answer) (r : Reply A) (n p e : ℕ) → (a before r) ≡ refusal n p e → (a ≡ refused n p e) ⊎ (r ≡ refusal n p e)
  before-refusal accepted r n p e h = inr h
  before-refusal (refused m q d) r n p e h = inl (cc)

-- ---- the number of a refusal: what is so of it

abbrev pub Told : (ℕ → Type 0) → Answer → Type 0
Told P a = (n p e : ℕ) → a ≡ refused n p e → P n

module _ (P : ℕ → Type 0) where
  pub need-told : (t : Bool) (k p e : ℕ) → P k → Told P (need t k p e)
  need-told true k p e a n q d h = absurd (accepted≢refused h)
  need-told false k p e a n q d h = let s : k ≡ n = cc in rw s at a

  -- the second is asked where the first accepts
  pub or_else_told : (a b : Answer) → Told P a → (a ≡ accepted → Told P b) → Told P (a or_else b)
  or_else_told accepted b f g n p e h = g refl n p e h
  or_else_told (refused m q d) b f g n p e h = f n p e h

-- ---- it is from 1 to `most`

abbrev pub UpTo : ℕ → ℕ → Type 0
UpTo most n = (1 ≤ n) × (n ≤ most)

abbrev pub Numbered : ℕ → Answer → Type 0
Numbered most = Told (UpTo most)

abbrev pub NumberedReply : {A : Type 0} → ℕ → Reply A → Type 0
NumberedReply most r = (n p e : ℕ) → r ≡ refusal n p e → UpTo most n

pub need_numbered : (most : ℕ) (t : Bool) (k p e : ℕ) → 1 ≤ k → k ≤ most → Numbered most (need t k p e)
need_numbered most t k p e l u = need-told (UpTo most) t k p e (l, u)

-- the first of two answers, of which the first may go less high
pub or_else_numbered : (less most : ℕ) (a b : Answer) → less ≤ most → Numbered less a → Numbered most b → Numbered most (a or_else b)
or_else_numbered less most a b l f g = or_else_told (UpTo most) a b (λ n p e h. ((f n p e h).0, omega (arith, (f n p e h).1))) (λ h. g)

module _ {A : Type 0} where
  pub else_numbered : (most : ℕ) (a : Answer) (x : A) → Numbered most a → NumberedReply most (a else x)
  else_numbered most a x f n p e h = f n p e (else_refusal a x n p e h)

  pub before_numbered : (less most : ℕ) (a : Answer) (r : Reply A) → less ≤ most → Numbered less a → NumberedReply most r → NumberedReply most (a before r)
  before_numbered less most a r l f g n p e h = go (before-refusal a r n p e h)
    where
      go : (a ≡ refused n p e) ⊎ (r ≡ refusal n p e) → UpTo most n
      go (inl q) = ((f n p e q).0, omega (arith, (f n p e q).1))
      go (inr q) = g n p e q
