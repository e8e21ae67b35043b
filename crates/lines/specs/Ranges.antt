-- What may stand at each place of a header, in three tables: a byte from a lowest to a highest, but not the one that is barred; and what makes the tables as strict as a
-- layout.
-- Assumes nothing.
use Rattle.std.specs.Prelude.{ℕ, zero, suc, ◌+◌, Bool, true, false, cond, ◌&&◌, not, List, [], ◌∷◌, leb, eqb}
use Rattle.layout.specs.Bytes.{byte_at, within, member}
use Rattle.layout.specs.Text.{Class, exactly, plain, sign, digit, among}

-- x may stand from lo to hi, where one byte is barred
unfoldable pub may_stand : ℕ → ℕ → ℕ → ℕ → Bool
may_stand lo hi barred x = within lo hi x && not (eqb x barred)

-- the byte i may not stand there
unfoldable pub misplaced : List ℕ → List ℕ → List ℕ → List ℕ → ℕ → Bool
misplaced lows highs barred b i = not (may_stand (byte_at lows i) (byte_at highs i) (byte_at barred i) (byte_at b i))

-- ---- as strict as a layout

-- a byte from lo to hi that is not barred is of the class; where the class is one byte, it is both lo and hi, but that a blank goes up to !, which is barred
unfoldable pub narrow : Class → ℕ → ℕ → ℕ → Bool
narrow (exactly y) lo hi barred = eqb lo y && cond (eqb y 32) (eqb hi 33 && eqb barred 33) (eqb hi y)
narrow plain lo hi barred = leb 32 lo && (leb hi 126 && eqb barred 34)
narrow sign lo hi barred = eqb lo 43 && (eqb hi 45 && eqb barred 44)
narrow digit lo hi barred = leb 48 lo && leb hi 57
narrow (among ys) lo hi barred = member lo ys && (member hi ys && leb hi (lo + 1))

-- at each place; at each but the place m
unfoldable pub strict : List Class → List ℕ → List ℕ → List ℕ → Bool
strict [] lows highs barred = true
strict (k ∷ ks) [] highs barred = false
strict (k ∷ ks) (lo ∷ lows) [] barred = false
strict (k ∷ ks) (lo ∷ lows) (hi ∷ highs) [] = false
strict (k ∷ ks) (lo ∷ lows) (hi ∷ highs) (u ∷ barred) = narrow k lo hi u && strict ks lows highs barred

unfoldable pub strict_but : ℕ → List Class → List ℕ → List ℕ → List ℕ → Bool
strict_but m [] lows highs barred = true
strict_but m (k ∷ ks) [] highs barred = false
strict_but m (k ∷ ks) (lo ∷ lows) [] barred = false
strict_but m (k ∷ ks) (lo ∷ lows) (hi ∷ highs) [] = false
strict_but zero (k ∷ ks) (lo ∷ lows) (hi ∷ highs) (u ∷ barred) = strict ks lows highs barred
strict_but (suc m) (k ∷ ks) (lo ∷ lows) (hi ∷ highs) (u ∷ barred) = narrow k lo hi u && strict_but m ks lows highs barred
