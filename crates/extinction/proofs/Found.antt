-- The set that is found in the arrays of a directory is the one that refusal 22 asks for.
-- Assumes nothing.
use Prim.Native.Nat.{ℕ, ◌≤◌, ◌<◌}
use mathlib.Core.Bool.{Bool, true, false, cond, ◌&&◌}
use mathlib.Core.List.{List}
use mathlib.Core.Path.{◌≡◌, refl, ◌∙◌}
use native.Mathlib.Omega.{arith}
use lib.Dec.{eqb, ltb}
use lib.IntN.{ℤ, pos}
use lib.ListN.{length, get_or}
use borrow.Author.Tests.{lt-ltb, le-ltb, eqb-true}
use Rattle.layout.specs.Text.{whole}
use Rattle.layout.specs.Answer.{accepted, refused, none, need, ◌or_else◌}
use Rattle.layout.specs.Search.{count, only}
use Rattle.layout.specs.Entries.{Entry, eq_z, at}
use Rattle.layout.specs.Answers.{type_of, record_size_of, directory_of}
use Rattle.layout.specs.declared.Directory.{Directory}
use Rattle.layout.proofs.Laws.{eq_z-T}
use Rattle.layout.proofs.Tests.{is_false, counted_once}
use Rattle.layout.proofs.Only.{only_same}
use Rattle.layout.proofs.Padded.{padded-at}
use Rattle.layout.proofs.Names.{name_same}
use Rattle.extinction.specs.Extinction.{is_extinction, is_extinction_at, extinction_entry, set_refusal}
use Rattle.extinction.specs.Found.{is_extinction_in, extinction_in}

-- ---- in the arrays of any directory

module _ (d : Directory) where
  pub none_found : only (is_extinction_in d) d.entries ≡ d.entries → extinction_in d ≡ 128
  unfolding extinction_in
  none_found h = rw (h, le-ltb d.entries d.entries (omega arith))

  module _ (i : ℕ) (found : (i ≡ only (is_extinction_in d) d.entries) × (i < d.entries)) where
    abbrev size : ℤ
    size = get_or d.record_sizes i (pos 0)

    pub wrong_size : (size ≡ pos 25709 → ⊥) → extinction_in d ≡ 128
    unfolding extinction_in
    wrong_size h = rw (← found.0, is_false (eq_z size (pos 25709)) (λ t. h ((eq_z-T size (pos 25709)).0 t)), lt-ltb i d.entries found.1)

    pub right_size : size ≡ pos 25709 → i ≡ extinction_in d
    unfolding extinction_in
    right_size h = rw (← found.0, lt-ltb i d.entries found.1, h)

-- ---- in those of a product

module _ (ds : List Entry) (few : length ds ≤ 128) (wide : (k : ℕ) → k < length ds → length (at ds k).name ≡ 28) where
  type_same : (k : ℕ) → k < length ds → get_or (directory_of ds).types k 0 ≡ (at ds k).type
  unfolding directory_of
  type_same k l = padded-at type_of 0 128 ds k l

  is_same : (k : ℕ) → k < length ds → is_extinction_in (directory_of ds) k ≡ is_extinction_at ds k
  unfolding is_extinction_in is_extinction_at is_extinction
  is_same k l = rw (type_same k l, name_same ds k l wide)

  abbrev once : Bool
  once = eqb (count (is_extinction_at ds) 0 (length ds)) 1

  abbrev sized : Bool
  sized = eq_z (whole (at ds (extinction_entry ds)).record_size) (pos 25709)

  inside : once ≡ true → extinction_entry ds < length ds
  unfolding extinction_entry
  inside h = (counted_once (is_extinction_at ds) (length ds) (eqb-true (count (is_extinction_at ds) 0 (length ds)) 1 h)).0

  only-is : only (is_extinction_in (directory_of ds)) (length ds) ≡ cond once (extinction_entry ds) (length ds)
  unfolding only extinction_entry
  only-is = only_same (is_extinction_in (directory_of ds)) (is_extinction_at ds) (length ds) is_same

  size_same : extinction_entry ds < length ds → get_or (directory_of ds).record_sizes (extinction_entry ds) (pos 0) ≡ whole (at ds (extinction_entry ds)).record_size
  unfolding directory_of
  size_same l = padded-at record_size_of (pos 0) 128 ds (extinction_entry ds) l

  found-is : extinction_in (directory_of ds) ≡ cond (once && sized) (extinction_entry ds) 128
  unfolding extinction_in directory_of
  found-is = rw only-is (go once refl)
    where
      go : (x : Bool) → once ≡ x
          → cond (ltb (cond x (extinction_entry ds) (length ds)) (length ds) && eq_z (get_or (directory_of ds).record_sizes (cond x (extinction_entry ds) (length ds)) (pos 0)) (pos 25709)) (cond x (extinction_entry ds) (length ds)) 128
          ≡ cond (x && sized) (extinction_entry ds) 128
      go true h = rw (lt-ltb (extinction_entry ds) (length ds) (inside h), size_same (inside h))
      go false h = rw (le-ltb (length ds) (length ds) (omega arith))

  refusal_is : set_refusal ds ≡ need (once && sized) 22 0 none
  unfolding set_refusal
  refusal_is = go once sized
    where
      go : (x y : Bool) → (need x 22 0 none or_else need y 22 0 none) ≡ need (x && y) 22 0 none
      go true y = refl
      go false y = refl

  first : (x y : Bool) → (x && y) ≡ true → x ≡ true
  first true y h = refl
  first false y h = cc

  -- 128: refused
  pub no_set : extinction_in (directory_of ds) ≡ 128 → set_refusal ds ≡ refused 22 0 none
  no_set h = go (once && sized) refl
    where
      go : (t : Bool) → (once && sized) ≡ t → set_refusal ds ≡ refused 22 0 none
      go true e =
          let q : extinction_in (directory_of ds) ≡ extinction_entry ds = found-is ∙ rw e in
          absurd (omega (arith, h, q, inside (first once sized e)))
      go false e = refusal_is ∙ rw e

  -- else the set
  pub the_set : (extinction_in (directory_of ds) ≡ 128 → ⊥) → (set_refusal ds ≡ accepted) × (extinction_in (directory_of ds) ≡ extinction_entry ds)
  the_set h = go (once && sized) refl
    where
      go : (t : Bool) → (once && sized) ≡ t → (set_refusal ds ≡ accepted) × (extinction_in (directory_of ds) ≡ extinction_entry ds)
      go true e = (refusal_is ∙ rw e, found-is ∙ rw e)
      go false e = absurd (h (found-is ∙ rw e))
