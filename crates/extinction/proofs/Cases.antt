-- Computed cases of residual extinction: which directories have the set, and what a record answers of a pixel.
-- Assumes nothing.
use Prim.Native.Nat.{ℕ, ◌-◌, ◌%◌}
use Prim.Native.String.{String}
use mathlib.Core.Bool.{false}
use mathlib.Core.List.{List, [], ◌∷◌, ◌++◌, map}
use mathlib.Core.Path.{◌≡◌, refl}
use lib.ListN.{length, replicate}
use Rattle.layout.specs.Bytes.{bytes, byte_at, unsigned_at, twos_complement, signed_at}
use Rattle.layout.specs.Text.{Number, whole}
use Rattle.layout.specs.Answer.{Answer, accepted, refused}
use Rattle.layout.specs.Search.{count, find, upto}
use Rattle.layout.specs.Entries.{Entry, at, called}
use Rattle.extinction.specs.Extinction.{single_at, is_extinction, is_extinction_at, extinction_entry, set_refusal, pixel_of, pixel_refusal}

-- ---- the set

abbrev pub plus : ℕ → Number
plus n = record { minus = false; magnitude = n }

-- an empty set of this type, name and record size
abbrev pub set : ℕ → String → ℕ → Entry
set type name size = record { type = type; name = bytes name ++ replicate (28 - length (bytes name)) 32; filename = []; offset = plus 0; size = plus 0; count = plus 0; record_size = plus size }

-- directories and their refusals by 22
abbrev pub directories : List (List Entry)
directories =
    (set 77 "EXT_MDS" 25709 ∷ [])
    ∷ (set 65 "EXT_MDS" 25709 ∷ set 77 "EXT_MDS_" 25709 ∷ set 77 "EXT_MD" 25709 ∷ set 77 "EXT_MDS" 25709 ∷ [])
    ∷ []
    ∷ (set 77 "EXT_MDS" 25708 ∷ [])
    ∷ (set 65 "EXT_MDS" 25709 ∷ [])
    ∷ (set 77 " EXT_MDS" 25709 ∷ [])
    ∷ (set 77 "EXT_MDS" 25709 ∷ set 77 "EXT_MDS" 25709 ∷ [])
    ∷ (set 77 "EXT_MDS" 25709 ∷ set 77 "EXT_MDS" 25708 ∷ [])
    ∷ []

abbrev pub no_set : Answer
no_set = refused 22 0 128

pub directories_judged : map set_refusal directories ≡ accepted ∷ accepted ∷ no_set ∷ no_set ∷ no_set ∷ no_set ∷ no_set ∷ no_set ∷ []
unfolding set_refusal is_extinction is_extinction_at extinction_entry count find at called whole
directories_judged = refl

-- ---- a record

-- 25,709 bytes, of which the quality is given, and any other is its offset's remainder by 251
abbrev pub measured : ℕ → List ℕ
measured quality = map (λ k. k % 251) (upto 0 12) ++ quality ∷ map (λ k. k % 251) (upto 13 25696)

-- the last pixel's values stand in the 4 bytes up to 9357 and up to 18701, in the 2 up to 23373, and in the record's last byte
pub last_pixel : ((pixel_of (measured 0) 2335).transmission.bits ≡ 1111704645) × (((pixel_of (measured 0) 2335).covariance.bits ≡ 2071756158) × (((pixel_of (measured 0) 2335).model_code ≡ 7197) × ((pixel_of (measured 0) 2335).flag ≡ 106)))
unfolding pixel_of single_at unsigned_at byte_at
last_pixel = (refl, (refl, (refl, refl)))

-- 23 before 24, and 24 for quality -1 alone
pub pixels_judged : map (λ q. pixel_refusal (measured q) 3 2335) (0 ∷ 254 ∷ 255 ∷ []) ++ map (λ q. pixel_refusal (measured q) 3 2336) (0 ∷ 255 ∷ [])
    ≡ accepted ∷ accepted ∷ refused 24 12 3 ∷ refused 23 2336 3 ∷ refused 23 2336 3 ∷ []
unfolding pixel_refusal signed_at unsigned_at byte_at twos_complement
pixels_judged = refl
