-- Bytes and parts of a run of bytes; whole numbers over several bytes, most significant first (document 01, "Fields and points").
-- Assumes nothing.
use Rattle.std.specs.Prelude.{ℕ, zero, suc, ◌+◌, ◌*◌, ◌-◌, ◌^◌, Bool, false, cond, ◌&&◌, ◌||◌, List, [], ◌∷◌, leb, ltb, eqb, ℤ, pos, negsuc, take, drop, get_or}
use Prim.Native.String.{String, [] as ε, ◌∷◌ as cons}
use Prim.Native.Char.{code}

-- the bytes of a text written between quotes
abbrev pub bytes : String → List ℕ
bytes ε = []
bytes (cons x s) = code x ∷ bytes s

-- the n bytes from a place on
unfoldable pub part : List ℕ → ℕ → ℕ → List ℕ
part b at n = take n (drop at b)

-- the byte at a place
unfoldable pub byte_at : List ℕ → ℕ → ℕ
byte_at b at = get_or b at 0

abbrev pub within : ℕ → ℕ → ℕ → Bool
within lo hi x = leb lo x && leb x hi

abbrev pub member : ℕ → List ℕ → Bool
member x [] = false
member x (y ∷ ys) = eqb x y || member x ys

-- the number that the w bytes from a place on are, without a sign
unfoldable pub unsigned_at : List ℕ → ℕ → ℕ → ℕ
unsigned_at b at zero = 0
unsigned_at b at (suc w) = unsigned_at b at w * 256 + byte_at b (at + w)

-- a number below twice half, as two's complement: from half on it is negative
unfoldable pub twos_complement : ℕ → ℕ → ℤ
twos_complement half n = cond (ltb n half) (pos n) (negsuc (2 * half - 1 - n))

-- the same w bytes with a sign
unfoldable pub signed_at : List ℕ → ℕ → ℕ → ℤ
signed_at b at w = twos_complement (2 ^ (8 * w - 1)) (unsigned_at b at w)
