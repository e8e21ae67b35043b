-- Searches that go one number further.
-- Assumes nothing.
use Prim.Native.Nat.{ℕ, zero, suc, ◌+◌, ◌<◌}
use mathlib.Core.Bool.{Bool, true, false, cond, not}
use mathlib.Core.Path.{◌≡◌, refl, ◌∙◌}
use native.Mathlib.Omega.{arith}
use native.Mathlib.Nat.{add-zero, zero-add}
use native.Mathlib.Numerals.{add-one}
use lib.Dec.{ltb}
use borrow.Author.Tests.{lt-ltb, le-ltb}
use Rattle.layout.specs.Search.{find}

-- what is found stays found
kept : (u : Bool) (i m x f y : ℕ) → i < m → x ≡ cond (ltb f m) f y → cond u i x ≡ cond (ltb (cond u i f) m) (cond u i f) y
kept true i m x f y l e = rw (lt-ltb i m l)
kept false i m x f y l e = e

turned : (u v : Bool) (row a z : ℕ) → cond v row (cond (not u) a z) ≡ cond v row (cond u z a)
turned true v row a z = refl
turned false v row a z = refl

module _ (t : ℕ → Bool) where
  pub none_found : 0 ≡ find t 0 0
  unfolding find
  none_found = refl

  find_more : (i n : ℕ) → find t i (suc n) ≡ cond (ltb (find t i n) (i + n)) (find t i n) (cond (t (i + n)) (i + n) (suc (i + n)))
  unfolding find
  find_more i zero = rw (add-zero i, le-ltb i i (omega arith))
  find_more i (suc n) =
      let q : i + suc n ≡ suc i + n = omega arith in
      rw q (kept (t i) i (suc i + n) _ (find t (suc i) n) _ (omega arith) (find_more (suc i) n))

  -- the numbers in a row that pass, by what a turn of the loop makes of them
  pub row_next : (row i : ℕ) (passes : Bool) → row ≡ find t 0 i → passes ≡ not (t i) → {r : ℕ} → r ≡ cond (ltb row i) row (cond passes (i + 1) i) → r ≡ find t 0 (i + 1)
  row_next row i passes e q s = s ∙ rw (q, add-one i, find_more 0 i, zero-add i, ← e) (turned (t i) (ltb row i) row (suc i) i)
