-- The lines of document 01 begin at the bytes that it prints, and end at 1,247 and 280.
-- Assumes nothing.
use Prim.Native.Nat.{ℕ}
use mathlib.Core.Bool.{Bool, true, false, cond}
use mathlib.Core.List.{List, [], ◌∷◌}
use mathlib.Core.Path.{◌≡◌, refl}
use lib.Dec.{eqb}
use lib.ListN.{length}
use Rattle.layout.specs.Bytes.{byte_at}
use Rattle.layout.specs.Text.{line_classes, value_classes, layout, starts_of}
use Rattle.layout.specs.Lines.{mph, dsd, spare_dsd}
use Rattle.layout.specs.Rules.{lines_of}

pub mph-starts :
    starts_of 0 mph
    ≡ 0 ∷ 73 ∷ 86 ∷ 120 ∷ 161 ∷ 204 ∷ 225 ∷ 265 ∷ 295 ∷ 336 ∷ 380 ∷ 423 ∷ 464 ∷ 472 ∷ 483 ∷ 500 ∷ 517 ∷ 565 ∷ 587 ∷ 614 ∷ 641 ∷ 668 ∷ 697 ∷ 726 ∷ 755 ∷ 774 ∷ 815 ∷ 858 ∷ 886 ∷ 913 ∷ 946 ∷ 985 ∷ 1000 ∷ 1011 ∷ 1052 ∷ 1066 ∷ 1104 ∷ 1132 ∷ 1152 ∷ 1180 ∷ 1206 ∷ []
unfolding starts_of mph line_classes value_classes
mph-starts = refl

pub dsd-starts : starts_of 0 dsd ≡ 0 ∷ 39 ∷ 49 ∷ 123 ∷ 162 ∷ 199 ∷ 219 ∷ 247 ∷ []
unfolding starts_of dsd line_classes value_classes
dsd-starts = refl

pub spare-starts : starts_of 0 spare_dsd ≡ 0 ∷ []
unfolding starts_of spare_dsd line_classes
spare-starts = refl

pub mph-length : length (layout mph) ≡ 1247
unfolding layout mph line_classes value_classes
mph-length = refl

pub dsd-length : length (layout dsd) ≡ 280
unfolding layout dsd line_classes value_classes
dsd-length = refl

pub spare-length : length (layout spare_dsd) ≡ 280
unfolding layout spare_dsd line_classes value_classes
spare-length = refl

-- whichever lines decide a DSD
pub lines_length : (d : List ℕ) → length (layout (lines_of d)) ≡ 280
unfolding lines_of
lines_length d = go (eqb (byte_at d 0) 32)
  where
    go : (t : Bool) → length (layout (cond t spare_dsd dsd)) ≡ 280
    go true = spare-length
    go false = dsd-length
