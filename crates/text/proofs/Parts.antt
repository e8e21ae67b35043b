-- A part of the bytes up to a place `to`, byte by byte.
-- Assumes nothing.
use Prim.Native.Nat.{ℕ, zero, suc, ◌+◌, ◌-◌, ◌≤◌, ◌<◌}
use mathlib.Core.List.{List, [], ◌∷◌}
use mathlib.Core.Path.{◌≡◌, ◌∙◌}
use native.Mathlib.Omega.{arith}
use native.Mathlib.Numerals.{add-one}
use lib.ListN.{length, take, drop, get_or}
use native.Mathlib.Nat.{sub-zero}
use lib.Seq.{drop-cons, drop-drop, take-nil, get_or-take, get_or-drop}
use Rattle.layout.specs.Bytes.{part, byte_at}

module _ (b : List ℕ) (i to : ℕ) where
  pub part-cons : i < to → to ≤ length b → part b i (to - i) ≡ get_or b i 0 ∷ part b (i + 1) (to - (i + 1))
  unfolding part
  part-cons h l =
      let q : to - i ≡ suc (to - suc i) = omega arith in
      let k : i < length b = omega arith in
      rw (q, add-one i, drop-cons b i 0 k)

  pub part_end : to ≤ i → part b i (to - i) ≡ []
  unfolding part
  part_end h = let q : to - i ≡ 0 = omega arith in rw q

-- ---- a part of a part

drop-take : (i n : ℕ) (l : List ℕ) → drop i (take n l) ≡ take (n - i) (drop i l)
drop-take zero n l = rw (sub-zero n)
drop-take (suc i) zero l = let q : 0 - suc i ≡ 0 = omega arith in rw q
drop-take (suc i) (suc n) [] = rw (take-nil (suc n - suc i))
drop-take (suc i) (suc n) (x ∷ l) = let q : suc n - suc i ≡ n - i = omega arith in rw q (drop-take i n l)

module _ (b : List ℕ) (at n : ℕ) where
  pub drop-part : (i : ℕ) → drop i (part b at n) ≡ part b (at + i) (n - i)
  unfolding part
  drop-part i = drop-take i n (drop at b) ∙ rw (drop-drop i at b)

  pub byte_part : (i : ℕ) → i < n → byte_at (part b at n) i ≡ byte_at b (at + i)
  unfolding part byte_at
  byte_part i h = rw (get_or-take n (drop at b) i 0 h, get_or-drop at b i 0)
