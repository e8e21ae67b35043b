-- The arrays of a directory: what a padded list holds at a place of the list, and how it is filled.
-- Assumes nothing.
use Prim.Native.Nat.{ℕ, zero, suc, ◌+◌, ◌-◌, ◌<◌}
use mathlib.Core.List.{List, [], ◌∷◌, ◌++◌, map}
use mathlib.Core.Path.{◌≡◌, refl, sym, ap, ◌∙◌}
use native.Mathlib.Omega.{arith}
use native.Mathlib.Nat.{le_of_suc-le-suc, not-suc-le-zero}
use lib.ListN.{length, get_or, set, replicate, get_or-append, length-append, length-map}
use lib.Seq.{append_snoc, set_at}
use Rattle.layout.specs.Search.{upto}
use Rattle.layout.specs.Entries.{Entry, at}
use Rattle.layout.specs.Answers.{padded}
use Rattle.layout.proofs.Laws.{map-one_more}
use Rattle.layout.proofs.Sound.{length-map-upto}

pub get_d_map : {A B : Type 0} (f : A → B) (l : List A) (i : ℕ) (z : B) (d : A) → i < length l → get_or (map f l) i z ≡ f (get_or l i d)
get_d_map f [] i z d h = absurd (not-suc-le-zero h)
get_d_map f (x ∷ l) zero z d h = refl
get_d_map f (x ∷ l) (suc i) z d h = get_d_map f l i z d (le_of_suc-le-suc h)

-- a padded list at a place of the list
pub held_at : {B : Type 0} (z : B) (n : ℕ) (l : List B) (i : ℕ) → i < length l → get_or (padded n z l) i z ≡ get_or l i z
unfolding padded
held_at z n l i h = get_or-append l (replicate (n - length l) z) z i h

-- an array that holds something of each entry
pub padded-at : {B : Type 0} (f : Entry → B) (z : B) (n : ℕ) (ds : List Entry) (i : ℕ) → i < length ds → get_or (padded n z (map f ds)) i z ≡ f (at ds i)
unfolding at
padded-at f z n ds i h = held_at z n (map f ds) i (omega (arith, length-map ds f)) ∙ get_d_map f ds i z _ h

-- an array of 128 places that is filled one after the other, over any function of the number
module _ {A : Type 0} (f : ℕ → A) (z : A) where
  pub none-held : replicate 128 z ≡ padded 128 z (map f (upto 0 0))
  unfolding padded
  none-held = refl

  pub one-held : (l : List A) (i : ℕ) (v : A) → i < 128 → l ≡ padded 128 z (map f (upto 0 i)) → v ≡ f i
      → set l i v ≡ padded 128 z (map f (upto 0 (i + 1)))
  unfolding padded
  one-held l i v h e q =
      ap (λ (x : List A). set x i v) (e ∙ ap (λ (k : ℕ). held ++ replicate k z) (ap (λ (k : ℕ). 128 - k) held-length ∙ left))
      ∙ set_at held z (replicate (127 - i) z) v i held-length
      ∙ sym (append_snoc held v (replicate (127 - i) z))
      ∙ ap (λ (k : ℕ). (held ++ (v ∷ [])) ++ replicate k z) (sym right ∙ ap (λ (k : ℕ). 128 - k) (sym next-length))
      ∙ ap (λ (x : List A). x ++ replicate (128 - length x) z) (sym next)
    where
      held : List A
      held = map f (upto 0 i)

      held-length : length held ≡ i
      held-length = length-map-upto f 0 i

      next : map f (upto 0 (i + 1)) ≡ held ++ (v ∷ [])
      next = map-one_more f i ∙ ap (λ (x : A). held ++ (x ∷ [])) (sym q)

      next-length : length (held ++ (v ∷ [])) ≡ i + 1
      next-length = length-append held (v ∷ []) ∙ ap (λ (k : ℕ). k + 1) held-length

      left : 128 - i ≡ suc (127 - i)
      left = omega arith

      right : 128 - (i + 1) ≡ 127 - i
      right = omega arith
