-- Searches by number: the first refusal, whether some number passes, how many pass, the first that passes. So the lowest entry and the lowest
-- place of a rule fall out of its definition.
-- Assumes nothing.
use Rattle.std.specs.Prelude.{ℕ, zero, suc, ◌+◌, Bool, false, cond, ◌||◌, List, [], ◌∷◌, ◌++◌, ◌⊎◌, eqb, ◌≡◌, ◌<◌, Option, Some as JustOne, None}
use Rattle.layout.specs.Answer.{Answer, accepted, refused, need, ◌or_else◌}
use Rattle.layout.specs.Text.{Class, fits}

-- the first refusal at the n numbers from i on
unfoldable pub first : (ℕ → Answer) → ℕ → ℕ → Answer
first f i zero = accepted
first f i (suc n) = let r = first f (suc i) n in f i or_else r

-- some of the n numbers from i on passes
unfoldable pub some : (ℕ → Bool) → ℕ → ℕ → Bool
some t i zero = false
some t i (suc n) = let r = some t (suc i) n in t i || r

-- how many of the n numbers from i on pass
unfoldable pub count : (ℕ → Bool) → ℕ → ℕ → ℕ
count t i zero = 0
count t i (suc n) = cond (t i) 1 0 + count t (suc i) n

-- the first of the n numbers from i on that passes, or i + n
unfoldable pub find : (ℕ → Bool) → ℕ → ℕ → ℕ
find t i zero = i
find t i (suc n) = let r = find t (suc i) n in cond (t i) i r

-- what a search among the numbers below n answers, where n is found for none
abbrev pub Below : ℕ → Option ℕ → ℕ → Type 0
Below n (JustOne i) found = (i ≡ found) × (i < n)
Below n None found = found ≡ n

-- the only one of the n numbers from 0 on that passes, or n where none or several do
unfoldable pub only : (ℕ → Bool) → ℕ → ℕ
only t n = cond (eqb (count t 0 n) 1) (find t 0 n) n

-- each of a list is so; one of it is
module _ {A : Type 0} where
  abbrev pub All : (A → Type 0) → List A → Type 0
  All P [] = Unit {0}
  All P (x ∷ xs) = P x × All P xs

  abbrev pub Some : (A → Type 0) → List A → Type 0
  Some P [] = ⊥
  Some P (x ∷ xs) = P x ⊎ Some P xs

-- i and the n - 1 numbers after it
abbrev pub upto : ℕ → ℕ → List ℕ
upto i zero = []
upto i (suc n) = i ∷ upto (suc i) n

unfoldable pub sum : List ℕ → ℕ
sum [] = 0
sum (n ∷ ns) = n + sum ns

-- lists one after the other
abbrev pub join : {A : Type 0} → List (List A) → List A
join [] = []
join (x ∷ xs) = x ++ join xs

-- bytes against a layout, from the place p on: the first that is missing or not of its class is refused with the number n and the entry e
unfoldable pub laid_out : ℕ → ℕ → ℕ → List Class → List ℕ → Answer
laid_out n e p [] b = accepted
laid_out n e p (k ∷ ks) [] = refused n p e
laid_out n e p (k ∷ ks) (x ∷ b) = let r = laid_out n e (suc p) ks b in need (fits k x) n p e or_else r
