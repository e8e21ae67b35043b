-- The kinds of field and their numbers (document 01, "Fields and points").
-- Assumes nothing.
use Rattle.std.specs.Prelude.{ℕ, ◌≡◌, false, Result, MatchResult}
use Rattle.layout.specs.Bytes.{within}
use Rattle.layout.specs.Fields.{Shape, shape_of}
use Rattle.fields.specs.declared.NarrowKind.{NarrowKind}
use Rattle.fields.specs.declared.NarrowKind.TheVariants.{SignedChar, UnsignedChar, SignedShort, UnsignedShort, SignedLong, UnsignedLong, Float}
use Rattle.fields.specs.declared.Kind.{Kind}
use Rattle.fields.specs.declared.Kind.TheVariants.{Narrow, Double, Mjd}
use Rattle.fields.specs.declared.NoKind.{NoKind}

abbrev pub narrow_number : NarrowKind → ℕ
narrow_number SignedChar = 1
narrow_number UnsignedChar = 2
narrow_number SignedShort = 3
narrow_number UnsignedShort = 4
narrow_number SignedLong = 5
narrow_number UnsignedLong = 6
narrow_number Float = 7

abbrev pub kind_number : Kind → ℕ
kind_number (Narrow kind) = narrow_number kind
kind_number Double = 8
kind_number Mjd = 9

-- how a kind is written
abbrev pub narrow_shape : NarrowKind → Shape
narrow_shape kind = shape_of (narrow_number kind)

abbrev pub shape : Kind → Shape
shape kind = shape_of (kind_number kind)

-- the kind of this number, or none where it is outside 1 to 9
abbrev pub Numbered : ℕ → Result Kind NoKind → Type 0
Numbered n r = MatchResult r (λ kind. kind_number kind ≡ n) (λ _. within 1 9 n ≡ false)
