-- The laws of a name without its trailing blanks.
-- Assumes nothing.
use Prim.Native.Nat.{ℕ, suc, ◌+◌, ◌-◌, ◌≤◌, ◌<◌}
use mathlib.Core.Path.{◌≡◌, refl, ap, ◌∙◌}
use mathlib.Core.List.{List, [], ◌∷◌, ◌++◌}
use native.Mathlib.Omega.{arith}
use lib.ListN.{length, take, drop, get_or, length-drop}
use lib.Seq.{take-suc, get_or-drop}
use borrow.Author.Tests.{ne_eqb}
use Rattle.layout.specs.Bytes.{part}
use Rattle.layout.specs.Listing.{put_before, trimmed}

-- a blank at the end is left out
blank_last : (l : List ℕ) → trimmed (l ++ 32 ∷ []) ≡ trimmed l
unfolding trimmed put_before
blank_last [] = refl
blank_last (x ∷ l) = ap (put_before x) (blank_last l)

put-before : (x y : ℕ) (l : List ℕ) → put_before x (l ++ y ∷ []) ≡ x ∷ (l ++ y ∷ [])
unfolding put_before
put-before x y [] = refl
put-before x y (z ∷ l) = refl

-- another byte at the end keeps all
other_last : (l : List ℕ) (y : ℕ) → (y ≡ 32 → ⊥) → trimmed (l ++ y ∷ []) ≡ l ++ y ∷ []
unfolding trimmed put_before
other_last [] y h = rw (ne_eqb y 32 h)
other_last (x ∷ l) y h = rw (other_last l y h, put-before x y l)

-- the last of the first k bytes from a place on is a blank, or it is another byte
module _ (names : List ℕ) (start k : ℕ) (some : 0 < k) (fits : start + k ≤ length names) where
  last_of : part names start k ≡ part names start (k - 1) ++ get_or names (start + (k - 1)) 0 ∷ []
  unfolding part
  last_of =
      let e : k ≡ suc (k - 1) = omega arith in
      let h : k - 1 < length (drop start names) = omega (arith, length-drop start names) in
      ap (λ (n : ℕ). take n (drop start names)) e ∙ take-suc (drop start names) (k - 1) 0 h ∙ rw (get_or-drop start names (k - 1) 0)

  pub kept_less : get_or names (start + (k - 1)) 0 ≡ 32 → trimmed (part names start k) ≡ trimmed (part names start (k - 1))
  kept_less e = rw (last_of, e, blank_last (part names start (k - 1)))

  pub kept-all : (get_or names (start + (k - 1)) 0 ≡ 32 → ⊥) → trimmed (part names start k) ≡ part names start k
  kept-all e = rw (last_of, other_last (part names start (k - 1)) (get_or names (start + (k - 1)) 0) e)

pub kept-none : (names : List ℕ) (start : ℕ) → trimmed (part names start 0) ≡ part names start 0
unfolding part trimmed
kept-none names start = refl
