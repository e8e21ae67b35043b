-- Products for cases: text and c blank, numbers +0 and flags 0, but for what is given by keyword.
-- Assumes nothing.
use Prim.Native.Nat.{ℕ, zero, suc, ◌+◌, ◌*◌, ◌/◌, ◌%◌}
use Prim.Native.String.{String}
use mathlib.Core.Bool.{cond}
use mathlib.Core.List.{List, [], ◌∷◌, ◌++◌}
use lib.Text.{eqt}
use lib.ListN.{length, take, replicate}
use Rattle.layout.specs.Bytes.{bytes}
use Rattle.layout.specs.Text.{Kind, q, c, one_of, s, s_ab, Line, named, spare}
use Rattle.layout.specs.Lines.{mph, dsd}
use Rattle.layout.specs.Search.{join}

-- a keyword and the bytes of its value
pub record Given : Type 0 where
  pub key : String
  pub bytes : List ℕ

abbrev pub given : String → List ℕ → Given
given k b = record { key = k; bytes = b }

-- n digits of x, before the rest
abbrev pub digits_of : ℕ → ℕ → List ℕ → List ℕ
digits_of zero x rest = rest
digits_of (suc n) x rest = digits_of n (x / 10) ((48 + x % 10) ∷ rest)

abbrev pub plus : ℕ → ℕ → List ℕ
plus n x = 43 ∷ digits_of n x []

-- a text padded with blanks to n bytes, in quotes
abbrev pub quote : ℕ → List ℕ → List ℕ
quote n t = 34 ∷ (take n (t ++ replicate n 32) ++ 34 ∷ [])

-- what stands where nothing is given
abbrev pub silent : Kind → List ℕ
silent (q n) = quote n []
silent c = 32 ∷ []
silent (one_of t) = 48 ∷ []
silent (s n) = plus n 0
silent (s_ab a b) = 43 ∷ (replicate a 48 ++ 46 ∷ replicate b 48)

abbrev pub written : String → Kind → List Given → List ℕ
written k v [] = silent v
written k v (g ∷ gs) = cond (eqt k g.key) g.bytes (written k v gs)

abbrev pub header : List Line → List Given → List ℕ
header [] gs = []
header (named k v u ∷ ls) gs = bytes k ++ 61 ∷ (written k v gs ++ (bytes u ++ 10 ∷ header ls gs))
header (spare n ∷ ls) gs = replicate n 32 ++ 10 ∷ header ls gs

-- the main header of a product: its length, its SPH's length, its entries and its sets
abbrev pub mph_of : ℕ → ℕ → ℕ → ℕ → List ℕ
mph_of tot sph n sets =
    header mph
    (given "TOT_SIZE" (plus 20 tot)
    ∷ given "SPH_SIZE" (plus 10 sph)
    ∷ given "NUM_DSD" (plus 10 n)
    ∷ given "DSD_SIZE" (plus 10 280)
    ∷ given "NUM_DATA_SETS" (plus 10 sets)
    ∷ [])

-- a DSD: type, name, offset, size, records, and the bytes of the record size
abbrev pub dsd_of : ℕ → String → ℕ → ℕ → ℕ → List ℕ → List ℕ
dsd_of type name off size n rec =
    header dsd
    (given "DS_NAME" (quote 28 (bytes name))
    ∷ given "DS_TYPE" (type ∷ [])
    ∷ given "DS_OFFSET" (plus 20 off)
    ∷ given "DS_SIZE" (plus 20 size)
    ∷ given "NUM_DSR" (plus 10 n)
    ∷ given "DSR_SIZE" rec
    ∷ [])

-- the length, the SPH lines, the DSDs, how many sets, and all sets' bytes
abbrev pub product_of : List ℕ → List (List ℕ) → ℕ → List ℕ → List ℕ
product_of lines dsds sets r =
    let sph = length lines + 280 * length dsds in
    mph_of (1247 + sph + length r) sph (length dsds) sets ++ (lines ++ (join dsds ++ r))
