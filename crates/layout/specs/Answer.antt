-- What a rule or a call answers (document 01, "Layout rules and refusal numbers"): accepted, or refused with number, place and entry.
-- Assumes nothing.
use Rattle.std.specs.Prelude.{ℕ, Bool, true, false, ◌||◌, not}

pub data Answer : Type 0 where
  accepted : Answer
  refused : ℕ → ℕ → ℕ → Answer  -- number, place, entry

-- the entry of a refusal that is of no entry
abbrev pub none : ℕ
none = 128

-- the first refusal of two: a rule is looked at only when all before it hold
abbrev pub ◌or_else◌ : Answer → Answer → Answer
accepted or_else b = b
(refused n p e) or_else b = refused n p e

infixr 40 ◌or_else◌
-- a test that has to pass; else number, place, entry
abbrev pub need : Bool → ℕ → ℕ → ℕ → Answer
need true n p e = accepted
need false n p e = refused n p e

-- what is asked only where the test passes
abbrev pub where' : Bool → Answer → Answer
where' true a = a
where' false a = accepted

-- where the first test passes, so does the second
abbrev pub ◌⇒◌ : Bool → Bool → Bool
a ⇒ b = not a || b

infixr 20 ◌⇒◌
-- what a call answers: a refusal, or the value asked for
pub data Reply (A : Type 0) : Type 0 where
  refusal : ℕ → ℕ → ℕ → Reply A
  is : A → Reply A

-- the refusal, or the value where there is none
abbrev pub ◌else◌ : {A : Type 0} → Answer → A → Reply A
accepted else a = is a
(refused n p e) else a = refusal n p e

infixr 35 ◌else◌
-- the refusal, or the reply where there is none
abbrev pub ◌before◌ : {A : Type 0} → Answer → Reply A → Reply A
accepted before r = r
(refused n p e) before r = refusal n p e

infixr 35 ◌before◌
