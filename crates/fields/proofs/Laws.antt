-- The kinds by their numbers, how large a number of so many bytes is, and where a field ends.
-- Assumes nothing.
use mathlib.Core.Bool.{true}
use mathlib.Core.List.{List}
use mathlib.Core.Path.{◌≡◌, refl}
use Prim.Native.Nat.{ℕ, ◌+◌, ◌^◌, ◌≤◌}
use native.Mathlib.Nat.{pow-le-pow_right}
use lib.Dec.{leb, leb→le, lit≤}
use lib.ListN.{length}
use Rattle.layout.specs.Bytes.{within}
use Rattle.layout.specs.Answer.{accepted}
use Rattle.layout.specs.Fields.{ends_in}
use Rattle.layout.proofs.Laws.{need-accepts}
use Rattle.fields.specs.Kinds.{kind_number}
use Rattle.fields.specs.declared.Kind.{Kind}
use Rattle.fields.specs.declared.Kind.TheVariants.{Narrow, Double, Mjd}
use Rattle.fields.specs.declared.NarrowKind.TheVariants.{SignedChar, UnsignedChar, SignedShort, UnsignedShort, SignedLong, UnsignedLong, Float}

-- the kinds are those that refusal 19 leaves
pub known : (kind : Kind) → within 1 9 (kind_number kind) ≡ true
known (Narrow SignedChar) = refl
known (Narrow UnsignedChar) = refl
known (Narrow SignedShort) = refl
known (Narrow UnsignedShort) = refl
known (Narrow SignedLong) = refl
known (Narrow UnsignedLong) = refl
known (Narrow Float) = refl
known Double = refl
known Mjd = refl

pub four_bytes : (w : ℕ) → w ≤ 4 → 256 ^ w ≤ 4294967296
four_bytes w h = pow-le-pow_right {n = 256} (lit≤ tt) h

pub all_there : (r : List ℕ) (i off : ℕ) → ends_in r i off 4 ≡ accepted → off + 4 ≤ length r
unfolding ends_in
all_there r i off h = leb→le (off + 4) (length r) ((need-accepts (leb (off + 4) (length r)) 20 off i).0 h)
