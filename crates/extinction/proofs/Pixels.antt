-- What a record answers of a pixel: refusal 23, refusal 24, or its values.
-- Assumes nothing.
use Prim.Native.Nat.{ℕ, ◌≤◌, ◌<◌}
use mathlib.Core.Bool.{Bool, true, false}
use mathlib.Core.List.{List}
use mathlib.Core.Logic.{◌⊎◌, inl, inr}
use mathlib.Core.Path.{◌≡◌, refl, sym}
use lib.Dec.{T}
use lib.IntN.{negsuc}
use borrow.Author.Tests.{lt-ltb, le-ltb}
use Rattle.layout.specs.Bytes.{signed_at}
use Rattle.layout.specs.Answer.{refusal, is}
use Rattle.layout.specs.Entries.{eq_z}
use Rattle.layout.proofs.Laws.{eq_z-T, lt-or-le}
use Rattle.layout.proofs.Tests.{is_true, is_false}
use Rattle.extinction.specs.Extinction.{pixel_of, pixel_refusal, pixel_in}

module _ (r : List ℕ) (i pixel : ℕ) where
  abbrev is_empty : Bool
  is_empty = eq_z (signed_at r 12 1) (negsuc 0)

  empty-T : T is_empty → signed_at r 12 1 ≡ negsuc 0
  empty-T = (eq_z-T (signed_at r 12 1) (negsuc 0)).0

  pub past_pixels : 2336 ≤ pixel → refusal 23 pixel i ≡ pixel_in r i pixel
  unfolding pixel_in pixel_refusal
  past_pixels h = rw (le-ltb pixel 2336 h)

  module _ (there : pixel < 2336) where
    pub empty-record : signed_at r 12 1 ≡ negsuc 0 → refusal 24 12 i ≡ pixel_in r i pixel
    unfolding pixel_in pixel_refusal
    empty-record h = rw (lt-ltb pixel 2336 there, is_true is_empty ((eq_z-T (signed_at r 12 1) (negsuc 0)).1 h))

    pub values : (signed_at r 12 1 ≡ negsuc 0 → ⊥) → is (pixel_of r pixel) ≡ pixel_in r i pixel
    unfolding pixel_in pixel_refusal
    values h = rw (lt-ltb pixel 2336 there, is_false is_empty (λ t. h (empty-T t)))

  -- nothing else is answered
  pub data Answered : Type 0 where
    past : 2336 ≤ pixel → pixel_in r i pixel ≡ refusal 23 pixel i → Answered
    empty : pixel < 2336 → signed_at r 12 1 ≡ negsuc 0 → pixel_in r i pixel ≡ refusal 24 12 i → Answered
    given : pixel < 2336 → (signed_at r 12 1 ≡ negsuc 0 → ⊥) → pixel_in r i pixel ≡ is (pixel_of r pixel) → Answered

  pub answered : Answered
  answered = go (lt-or-le pixel 2336)
    where
      by_quality : pixel < 2336 → (t : Bool) → is_empty ≡ t → Answered
      by_quality l true q = let e = empty-T (rw q tt) in empty l e (sym (empty-record l e))
      by_quality l false q =
          let e : signed_at r 12 1 ≡ negsuc 0 → ⊥ = λ h. absurd (rw q at ((eq_z-T (signed_at r 12 1) (negsuc 0)).1 h)) in
          given l e (sym (values l e))

      go : (pixel < 2336) ⊎ (2336 ≤ pixel) → Answered
      go (inl l) = by_quality l is_empty refl
      go (inr l) = past l (sym (past_pixels l))
