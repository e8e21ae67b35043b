-- What the calls of `product` promise, put together to the pixel's reply.
-- Assumes nothing.
use Prim.Native.Nat.{ℕ, ◌≤◌, ◌<◌}
use mathlib.Core.Bool.{Bool, true, false}
use mathlib.Core.List.{List}
use mathlib.Core.Path.{◌≡◌, refl, sym, ap, ◌∙◌}
use native.Mathlib.Omega.{arith}
use lib.Dec.{ltb}
use lib.ListN.{length}
use Rattle.layout.specs.Answer.{Answer, accepted, refused, need, refusal, is, ◌or_else◌, ◌else◌}
use Rattle.layout.specs.Entries.{directory, at}
use Rattle.layout.specs.States.{states_of}
use Rattle.layout.specs.Rules.{verdict}
use Rattle.layout.specs.Records.{lengths, record_refusal, record_place, part_of}
use Rattle.layout.specs.Fields.{record_of}
use Rattle.layout.specs.Answers.{directory_of}
use Rattle.layout.specs.declared.Directory.{Directory}
use Rattle.layout.proofs.Laws.{or_else_accepts}
use Rattle.layout.proofs.Replies.{else_is, else_refusal}
use Rattle.layout.proofs.Sound.{sound, length-directory, accepted-entries}
use Rattle.layout.proofs.Names.{name_width}
use Rattle.extinction.specs.Extinction.{extinction_entry, set_refusal, pixel_in, measurement_refusal, pixel_reply}
use Rattle.extinction.specs.Found.{extinction_in, entry_reply}
use Rattle.extinction.proofs.Found as found
use Rattle.extinction.proofs.Measured.{part_there, part-missing, only_18, record-long}

module _ (b : List ℕ) where
  -- ---- the entry of the set, by the promise of `open_directory`

  pub refused-product : (n p e : ℕ) → (verdict b else directory_of (directory b)) ≡ refusal n p e → refusal n p e ≡ entry_reply b
  unfolding entry_reply
  refused-product n p e h = rw (else_refusal (verdict b) (directory_of (directory b)) n p e h)

  module _ (d : Directory) (opened : (verdict b else directory_of (directory b)) ≡ is d) where
    accepts : verdict b ≡ accepted
    accepts = (else_is (verdict b) (directory_of (directory b)) d opened).0

    answered : directory_of (directory b) ≡ d
    answered = (else_is (verdict b) (directory_of (directory b)) d opened).1

    few : length (directory b) ≤ 128
    few = omega (arith, length-directory b, accepted-entries b accepts)

    pub few-entries : d.entries ≤ 128
    unfolding directory_of
    few-entries = rw (← answered) few

    pub no_set : extinction_in d ≡ 128 → refusal 22 0 128 ≡ entry_reply b
    unfolding entry_reply
    no_set h = rw (accepts, found.no_set (directory b) few (name_width b (sound b accepts)) (ap extinction_in answered ∙ h))

    pub the_set : (i : ℕ) → (i ≡ extinction_in d) × (i < 128) → is i ≡ entry_reply b
    unfolding entry_reply
    the_set i h =
        let found_in : extinction_in (directory_of (directory b)) ≡ i = ap extinction_in answered ∙ sym h.0 in
        let r = found.the_set (directory b) few (name_width b (sound b accepts)) (λ q. omega (arith, found_in, q, h.1)) in
        rw (accepts, r.0, ← r.1, found_in)

  -- ---- a pixel of a record, by the promise of `record_part`

  module _ (j pixel : ℕ) where
    pub refused-set : (n p e : ℕ) → refusal n p e ≡ entry_reply b → refusal n p e ≡ pixel_reply b j pixel
    unfolding entry_reply pixel_reply measurement_refusal
    refused-set n p e h = rw (sooner (verdict b) (set_refusal (directory b)) (record_refusal b (extinction_entry (directory b)) j) (else_refusal (verdict b or_else set_refusal (directory b)) (extinction_entry (directory b)) n p e (sym h)))
      where
        sooner : (v s r : Answer) → (v or_else s) ≡ refused n p e → (v or_else s or_else r) ≡ refused n p e
        sooner accepted accepted r q = cc
        sooner accepted (refused m t f) r q = q
        sooner (refused m t f) s r q = q

    module _ (i : ℕ) (found_in : is i ≡ entry_reply b) (l : List ℕ) (handed : l ≡ part_of b (record_place b i j)) where
      entry : ((verdict b or_else set_refusal (directory b)) ≡ accepted) × (extinction_entry (directory b) ≡ i)
      unfolding entry_reply
      entry = else_is (verdict b or_else set_refusal (directory b)) (extinction_entry (directory b)) i (sym found_in)

      accepts-set : (verdict b ≡ accepted) × (set_refusal (directory b) ≡ accepted)
      accepts-set = simp or_else_accepts at entry.0

      -- the record is there, is what was handed out, and has its bytes
      abbrev Handed : Type 0
      Handed = ((record_refusal b i j ≡ accepted) × ((l ≡ record_of b i j) × (length l ≡ 25709)))

      pub handed_out : (length l ≡ 0 → ⊥) → Handed
      handed_out h = go (record_refusal b i j) refl
        where
          go : (a : Answer) → record_refusal b i j ≡ a → Handed
          go accepted q =
              let e : l ≡ record_of b i j = handed ∙ part_there b i j q in
              (q, (e, ap length e ∙ (rw entry.1 at (record-long b accepts-set.0 accepts-set.1 j)) q))
          go (refused n p e) q = absurd (h (ap length (handed ∙ part-missing b i j n p e q)))

      refusal_18 : length l ≡ 0 → record_refusal b i j ≡ refused 18 0 i
      refusal_18 h = go (ltb j (length (lengths (states_of b (directory b)) (at (directory b) i)))) (rw entry.1 at (only_18 b accepts-set.0 accepts-set.1 j))
        where
          go : (t : Bool) → record_refusal b i j ≡ need t 18 0 i → record_refusal b i j ≡ refused 18 0 i
          go true q = absurd (omega (arith, h, ap length (handed ∙ part_there b i j q), (rw entry.1 at (record-long b accepts-set.0 accepts-set.1 j)) q))
          go false q = q

      pub no_record : length l ≡ 0 → refusal 18 0 i ≡ pixel_reply b j pixel
      unfolding pixel_reply measurement_refusal
      no_record h = rw (accepts-set.0, accepts-set.1, entry.1, refusal_18 h)

      pub reads : (length l ≡ 0 → ⊥) → pixel_in l i pixel ≡ pixel_reply b j pixel
      unfolding pixel_reply measurement_refusal
      reads h = let r = handed_out h in rw (accepts-set.0, accepts-set.1, entry.1, r.0, r.1.0)
