-- What rule 8 gives of one DSD: its type is M, A, G or R, or it is a spare, whose type is a blank and whose numbers are zero.
-- Assumes nothing.
use Prim.Native.Nat.{ℕ, ◌+◌, ◌≤◌, ◌<◌}
use mathlib.Core.Bool.{Bool, true, false, cond}
use mathlib.Core.Logic.{◌⊎◌, inl, inr}
use mathlib.Core.List.{List, [], ◌∷◌}
use mathlib.Core.Path.{◌≡◌, sym, ◌∙◌}
use native.Mathlib.Omega.{arith}
use lib.Dec.{T, eqb, eqb→eq}
use lib.ListN.{length, take, drop, get_or, replicate, length-drop, length-replicate, get_or-replicate, get_or-append}
use lib.Seq.{get_or-take, get_or-drop, ext_get_or, length-take-le}
use Rattle.layout.specs.Bytes.{bytes, part, byte_at, member}
use Rattle.layout.specs.Text.{exactly, plain, fits, layout, line_classes, value_classes, value_width, quote_width, place_of, width_of, value_of, digits, number_of}
use Rattle.layout.specs.Lines.{dsd, spare_dsd}
use Rattle.layout.specs.Answer.{accepted}
use Rattle.layout.specs.Search.{laid_out}
use Rattle.layout.specs.Entries.{Entry, entry_of}
use Rattle.layout.specs.Rules.{lines_of}
use Rattle.layout.proofs.Laws.{laid_out-fits}
use Rattle.layout.proofs.Starts.{dsd-length, spare-length}

-- a part of bytes that are all blank
blank_part : (d : List ℕ) (at w : ℕ) → at + w ≤ length d → ((k : ℕ) → k < at + w → get_or d k 0 ≡ 32) → part d at w ≡ replicate w 32
unfolding part
blank_part d at w h all =
    let e : length (take w (drop at d)) ≡ w = length-take-le w (drop at d) (omega (arith, length-drop at d)) in
    ext_get_or 0 (take w (drop at d)) (replicate w 32) (e ∙ sym (length-replicate w 32))
    (λ k l. let m : k < w = omega arith in get_or-take w (drop at d) k 0 m ∙ get_or-drop at d k 0 ∙ all (at + k) (omega arith) ∙ sym (get_or-replicate w k 32 0 m))

spare_class : (k : ℕ) → k < 279 → get_or (layout spare_dsd) k plain ≡ exactly 32
unfolding layout spare_dsd line_classes
spare_class k h =
    get_or-append (replicate 279 (exactly 32)) (exactly 10 ∷ []) plain k (omega (arith, length-replicate 279 (exactly 32))) ∙ get_or-replicate 279 k (exactly 32) plain h

-- a type M, A, G or R; or a spare, which has no record and no byte
abbrev pub Typed : Entry → Type 0
Typed e = T (member e.type (bytes "MAGR")) ⊎ ((e.type ≡ 32) × ((e.count.magnitude ≡ 0) × (e.size.magnitude ≡ 0)))

module _ (d : List ℕ) where
  -- a spare as laid out
  pub spare_blank : ((k : ℕ) → k < length (layout spare_dsd) → T (fits (get_or (layout spare_dsd) k plain) (get_or d k 0))) → (k : ℕ) → k < 279 → get_or d k 0 ≡ 32
  unfolding fits
  spare_blank all k l = eqb→eq (get_or d k 0) 32 (rw (spare_class k l) at (all k (omega (arith, spare-length))))

  pub spare-count : ((k : ℕ) → k < 279 → get_or d k 0 ≡ 32) → 280 ≤ length d → (entry_of d).count.magnitude ≡ 0
  unfolding entry_of value_of place_of width_of dsd line_classes value_classes quote_width value_width number_of digits
  spare-count all h = rw (blank_part d 207 11 (omega arith) (λ k l. all k (omega arith)))

  spare_typed : ((k : ℕ) → k < 279 → get_or d k 0 ≡ 32) → 280 ≤ length d → Typed (entry_of d)
  unfolding entry_of value_of place_of width_of dsd line_classes value_classes quote_width value_width byte_at number_of digits
  spare_typed all h = inr (
    rw (blank_part d 47 1 (omega arith) (λ k l. all k (omega arith))),
    (spare-count all h, rw (blank_part d 170 21 (omega arith) (λ k l. all k (omega arith)))),
  )

  named_typed : T (fits (get_or (layout dsd) 47 plain) (get_or d 47 0)) → 280 ≤ length d → Typed (entry_of d)
  unfolding entry_of value_of place_of width_of dsd line_classes value_classes quote_width value_width byte_at part layout fits
  named_typed h l = inl (rw (get_or-take 1 (drop 47 d) 0 0 (omega arith), get_or-drop 47 d 0 0) h)

  pub laid_out_typed : (n e p : ℕ) → laid_out n e p (layout (lines_of d)) d ≡ accepted → Typed (entry_of d)
  unfolding lines_of
  laid_out_typed n e p h = go (eqb (byte_at d 0) 32) h
    where
      go : (t : Bool) → laid_out n e p (layout (cond t spare_dsd dsd)) d ≡ accepted → Typed (entry_of d)
      go true h =
          let r = laid_out-fits plain n e (layout spare_dsd) d p h in
          spare_typed (spare_blank r.1) (omega (arith, r.0, spare-length))
      go false h =
          let r = laid_out-fits plain n e (layout dsd) d p h in
          named_typed (r.1 47 (omega (arith, dsd-length))) (omega (arith, r.0, dsd-length))
