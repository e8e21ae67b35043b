-- Laws of the header values: numbers that fit, and where each value stands.
-- Assumes nothing.
use Prim.Native.Nat.{ℕ, suc, ◌+◌, ◌*◌, ◌-◌, ◌^◌, ◌≤◌, ◌<◌}
use mathlib.Core.Bool.{Bool, true, false, cond}
use mathlib.Core.List.{List, [], ◌∷◌}
use mathlib.Core.Logic.{⊎_elim}
use mathlib.Core.Path.{◌≡◌, sym, ◌∙◌}
use native.Mathlib.Nat.{add-zero, le_trans, mul_assoc, pow-succ', mul-le-mul_right, pow-le-pow_right, le_of_suc-le-suc}
use native.Mathlib.Omega.{arith}
use lib.Dec.{eqb}
use lib.IntN.{ℤ}
use lib.ListN.{length, get_or, take, drop, replicate, length-take, length-replicate, get_or-eq_default, get_or-replicate}
use lib.Seq.{get_or-take, get_or-drop}
use lib.Signed.{mag}
use mir.Syntax.{w64}
use mir.Val.{to_z, of_z}
use mir.Facts.{to_z-of_z}
use Rattle.std.specs.Array.{AllOfLen}
use Rattle.std.proofs.lemmas.List.{same_lists}
use Rattle.layout.specs.Bytes.{part, byte_at}
use Rattle.layout.specs.Text.{digits, number_of}
use Rattle.layout.proofs.Laws.{lt-or-le}
use Rattle.text.specs.Numbers.{number_in}
use Rattle.text.proofs.Laws.{magnitude-fits, magnitude_true}

-- ---- numbers that fit

-- a byte counts at most 207 as a digit
digits-most : (xs : List ℕ) (m : ℕ) → ((k : ℕ) → get_or xs k 0 < 256) → digits m xs + 23 ≤ (m + 23) * 10 ^ length xs
unfolding digits
digits-most [] m h = omega arith
digits-most (x ∷ xs) m h = le_trans (digits-most xs (cond (eqb x 46) m (m * 10 + (x - 48))) (λ k. h (suc k))) (step (eqb x 46))
  where
    step : (t : Bool) → (cond t m (m * 10 + (x - 48)) + 23) * 10 ^ length xs ≤ (m + 23) * 10 ^ suc (length xs)
    step t =
        let next : cond t m (m * 10 + (x - 48)) + 23 ≤ (m + 23) * 10 = go t in
        rw (pow-succ' 10 (length xs), ← mul_assoc (m + 23) 10 (10 ^ length xs)) (mul-le-mul_right (10 ^ length xs) next)
      where
        go : (t : Bool) → cond t m (m * 10 + (x - 48)) + 23 ≤ (m + 23) * 10
        go true = omega arith
        go false = omega (arith, h 0)

-- a sign and at most eleven bytes
twelve_fit : (xs : List ℕ) → length xs ≤ 12 → ((k : ℕ) → get_or xs k 0 < 256) → (number_of xs).magnitude ≤ 9223372036854775807
unfolding number_of
twelve_fit [] l h = omega arith
twelve_fit (x ∷ xs) l h =
    let most : 10 ^ length xs ≤ 10 ^ 11 = pow-le-pow_right (omega arith) (le_of_suc-le-suc l) in
    omega (arith, digits-most xs 0 (λ k. h (suc k)), most)

module _ (b : List ℕ) (at width : ℕ) where
  pub part_bytes : ((k : ℕ) → get_or b k 0 < 256) → (k : ℕ) → get_or (part b at width) k 0 < 256
  unfolding part
  part_bytes h k = ⊎_elim
      (λ l. rw (get_or-take width (drop at b) k 0 l, get_or-drop at b k 0) (h (at + k)))
      (λ l. rw (get_or-eq_default (take width (drop at b)) 0 {n = k} (omega (arith, length-take width (drop at b)))) (omega arith))
      (lt-or-le k width)

  part-most : length (part b at width) ≤ width
  unfolding part
  part-most = omega (arith, length-take width (drop at b))

  pub number_fits : ((k : ℕ) → get_or b k 0 < 256) → (12 < width → (number_of (part b at width)).magnitude ≤ 9223372036854775807) → (number_of (part b at width)).magnitude ≤ 9223372036854775807
  number_fits h long = ⊎_elim (λ l. long l) (λ l. twelve_fit (part b at width) (le_trans part-most l) (part_bytes h)) (lt-or-le 12 width)

  pub held_fits : ((k : ℕ) → get_or b k 0 < 256) → width ≤ 12 → (number_in b at width).magnitude ≤ 9223372036854775807
  held_fits h l = (magnitude-fits b at width).1 (number_fits h (λ m. absurd (omega arith)))

  pub held_true : ((k : ℕ) → get_or b k 0 < 256) → width ≤ 12 → (number_in b at width).magnitude ≡ (number_of (part b at width)).magnitude
  held_true h l = magnitude_true b at width (held_fits h l)

-- an i64 comes back as it is
pub kept : {z : ℤ} → mag z < 9223372036854775808 → to_z w64 (of_z w64 z) ≡ z
kept h = to_z-of_z {w = w64} (record { sfits = h })

-- the numbers of an array made by default
pub zeros : {xs : List ℕ} {n : ℕ} → AllOfLen (λ x. x ≡ 0) xs n → xs ≡ replicate n 0
zeros {xs} {n} h =
    same_lists xs (replicate n 0) (h.long ∙ sym (length-replicate n 0))
    (λ k d l. let below : k < n = rw (← h.long) l in h.at k d below ∙ sym (get_or-replicate n k 0 d below))

-- the byte of a c
pub one_byte : (b : List ℕ) (at : ℕ) → get_or b at 0 ≡ byte_at (part b at 1) 0
unfolding part byte_at
one_byte b at = sym (get_or-take 1 (drop at b) 0 0 (omega arith) ∙ get_or-drop at b 0 0 ∙ rw (add-zero at))
