-- A name and the blanks behind it, byte by byte.
-- Assumes nothing.
use Prim.Native.Nat.{ℕ, zero, suc, ◌+◌, ◌-◌, ◌≤◌}
use mathlib.Core.Bool.{Bool, true, false, cond, ◌&&◌, not, and_assoc}
use mathlib.Core.List.{List, [], ◌∷◌}
use mathlib.Core.Path.{◌≡◌, sym, ap, ◌∙◌}
use native.Mathlib.Omega.{arith}
use native.Mathlib.Nat.{add-zero, zero-add, suc-add, add-suc}
use lib.Dec.{eqb}
use lib.ListN.{length, take, drop, get_or}
use lib.Pointwise.{pointwise}
use lib.Seq.{drop-cons}
use borrow.Author.Tests.{eq-eqb, ne_eqb}
use Rattle.layout.specs.Bytes.{part, byte_at}
use Rattle.layout.specs.Search.{find}
use Rattle.layout.specs.Entries.{called}
use Rattle.text.specs.Blanks.{not_blank}

module _ (b : List ℕ) where
  -- blanks up to the end
  blank_rest : (n i to : ℕ) → to ≤ length b → i + n ≡ to → called (take n (drop i b)) [] ≡ eqb (find (not_blank b) i n) to
  unfolding find called not_blank byte_at
  blank_rest zero i to l q = let e : i ≡ to = omega arith in sym (eq-eqb i to e)
  blank_rest (suc n) i to l q = rw (drop-cons b i 0 (omega arith)) (go (eqb (get_or b i 0) 32) (blank_rest n (suc i) to l (omega arith)))
    where
      go : (t : Bool) → called (take n (drop (suc i) b)) [] ≡ eqb (find (not_blank b) (suc i) n) to
          → (t && called (take n (drop (suc i) b)) []) ≡ eqb (cond (not t) i (find (not_blank b) (suc i) n)) to
      go true below = below
      go false below = sym (ne_eqb i to (λ e. omega arith))

  padded : (name : List ℕ) (n i to : ℕ) → to ≤ length b → i + length name + n ≡ to
      → called (take (length name + n) (drop i b)) name ≡ (pointwise eqb (take (length name) (drop i b)) name && eqb (find (not_blank b) (i + length name) n) to)
  unfolding called
  padded [] n i to l q = rw (zero-add n, add-zero i) (blank_rest n i to l (omega arith))
  padded (y ∷ ys) n i to l q =
      rw (suc-add (length ys) n, drop-cons b i 0 (omega arith), padded ys n (suc i) to l (omega arith), add-suc i (length ys), suc-add i (length ys))
      (sym (and_assoc (eqb (get_or b i 0) y) (pointwise eqb (take (length ys) (drop (suc i) b)) ys) (eqb (find (not_blank b) (suc (i + length ys)) n) to)))

  -- a name in 28 bytes
  pub name_is : (name : List ℕ) (start : ℕ) → start + 28 ≤ length b → length name ≤ 28
      → called (part b start 28) name
      ≡ (pointwise eqb (take (start + length name - start) (drop start b)) name
      && eqb (find (not_blank b) (start + length name) (start + 28 - (start + length name))) (start + 28))
  unfolding part
  name_is name start l h =
      let m : start + length name - start ≡ length name = omega arith in
      let n : 28 ≡ length name + (start + 28 - (start + length name)) = omega arith in
      rw m (ap (λ (w : ℕ). called (take w (drop start b)) name) n ∙ padded name (start + 28 - (start + length name)) start (start + 28) l (omega arith))
