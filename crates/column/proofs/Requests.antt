-- Refusals 17, 19, 32 and 33 of a request, as the code finds them, and what is true of one that is not refused.
-- Assumes nothing.
use Prim.Native.Nat.{ℕ, ◌-◌, ◌≤◌, ◌<◌}
use mathlib.Core.Bool.{Bool, true, false, ◌&&◌}
use mathlib.Core.Path.{◌≡◌, refl}
use lib.Dec.{leb, ltb}
use Rattle.layout.specs.Bytes.{within}
use Rattle.layout.specs.Answer.{accepted, need, none, ◌or_else◌}
use Rattle.layout.proofs.Laws.{and_T, leb-T, need-accepts, or_else_accepts}
use Rattle.fields.specs.Kinds.{narrow_number}
use Rattle.fields.specs.declared.NarrowKind.{NarrowKind}
use Rattle.fields.specs.declared.NarrowKind.TheVariants.{SignedChar, UnsignedChar, SignedShort, UnsignedShort, SignedLong, UnsignedLong, Float}
use Rattle.fields.proofs.Laws.{known}
use Rattle.column.specs.Column.{request_refusal}
use Rattle.column.specs.Gathering.{kind_refusal, count_refusal}

-- the narrow kinds are those that refusal 32 leaves
pub narrow : (kind : NarrowKind) → leb (narrow_number kind) 7 ≡ true
narrow SignedChar = refl
narrow UnsignedChar = refl
narrow SignedShort = refl
narrow UnsignedShort = refl
narrow SignedLong = refl
narrow UnsignedLong = refl
narrow Float = refl

pub ruleset kinds = (known, narrow)

module _ (entries i from to kind room : ℕ) where
  pub in_two : request_refusal entries i from to kind room ≡ (kind_refusal entries i kind or_else count_refusal from to room)
  unfolding request_refusal kind_refusal count_refusal
  in_two = go (ltb i entries) (within 1 9 kind) (leb kind 7)
    where
      go : (a b c : Bool) → (need a 17 0 none or_else need b 19 0 i or_else need (c && (leb from to && leb (to - from) 512)) 32 0 none or_else need (leb (to - from) room) 33 0 none)
          ≡ ((need a 17 0 none or_else need b 19 0 i or_else need c 32 0 none) or_else (need (leb from to && leb (to - from) 512) 32 0 none or_else need (leb (to - from) room) 33 0 none))
      go false b c = refl
      go true false c = refl
      go true true false = refl
      go true true true = refl

  -- what is true of a request that is not refused
  pub good-says : request_refusal entries i from to kind room ≡ accepted
      → (i < entries) × (((1 ≤ kind) × (kind ≤ 9)) × (((kind ≤ 7) × ((from ≤ to) × (to - from ≤ 512))) × (to - from ≤ room)))
  unfolding request_refusal
  good-says h = simp (or_else_accepts, need-accepts, and_T, leb-T) at h
