-- What rule 8 gives of a DSD's numbers: NUM_DSR has ten digits, so it is below 10^10.
-- Assumes nothing.
use Prim.Native.Nat.{ℕ, suc, ◌+◌, ◌*◌, ◌-◌, ◌^◌, ◌≤◌, ◌<◌}
use mathlib.Core.Bool.{Bool, true, false, cond}
use mathlib.Core.List.{List, [], ◌∷◌}
use mathlib.Core.Path.{◌≡◌, refl, sym, ap, ◌∙◌}
use native.Mathlib.Omega.{arith}
use native.Mathlib.Nat.{mul-le-mul_right, mul-one, one-mul, pow-suc, pow-zero, mul_assoc, mul_comm, lt_of_lt_of_le}
use lib.Dec.{T, leb, eqb, leb→le}
use lib.ListN.{length, take, drop, get_or, replicate, length-drop, get_or-replicate}
use lib.Seq.{get_or-take, get_or-drop, drop-cons, length-take-le}
use borrow.Author.Tests.{ne_eqb}
use Rattle.layout.specs.Bytes.{part, byte_at, within}
use Rattle.layout.specs.Text.{Class, plain, digit, fits, layout, line_classes, value_classes, value_width, quote_width, place_of, width_of, value_of, digits, number_of}
use Rattle.layout.specs.Lines.{dsd, spare_dsd}
use Rattle.layout.specs.Answer.{accepted}
use Rattle.layout.specs.Search.{laid_out}
use Rattle.layout.specs.Entries.{entry_of}
use Rattle.layout.specs.Rules.{lines_of}
use Rattle.layout.proofs.Laws.{laid_out-fits, and_T}
use Rattle.layout.proofs.Starts.{dsd-length, spare-length}
use Rattle.layout.proofs.Types.{spare_blank, spare-count}

one-digit : (sofar x : ℕ) → T (within 48 57 x) → cond (eqb x 46) sofar (sofar * 10 + (x - 48)) + 1 ≤ (sofar + 1) * 10
one-digit sofar x h =
    let r = (and_T (leb 48 x) (leb x 57)).0 h in
    let l = leb→le 48 x r.0 in
    let u = leb→le x 57 r.1 in
    rw (ne_eqb x 46 (λ e. omega arith)) (omega arith)

digits_below : (xs : List ℕ) (sofar : ℕ) → ((k : ℕ) → k < length xs → T (within 48 57 (get_or xs k 0))) → digits sofar xs < (sofar + 1) * 10 ^ length xs
unfolding digits
digits_below [] sofar h = rw (pow-zero 10, mul-one) (omega arith)
digits_below (x ∷ xs) sofar h =
    let next = cond (eqb x 46) sofar (sofar * 10 + (x - 48)) in
    let m = mul-le-mul_right (10 ^ length xs) (one-digit sofar x (h 0 (omega arith))) in
    let q : (sofar + 1) * 10 * 10 ^ length xs ≡ (sofar + 1) * 10 ^ suc (length xs) = rw (pow-suc, mul_assoc (sofar + 1) 10 (10 ^ length xs)) (ap (λ (n : ℕ). (sofar + 1) * n) (mul_comm 10 (10 ^ length xs))) in
    rw (← q) (lt_of_lt_of_le (digits_below xs next (λ k l. h (suc k) (omega arith))) m)

-- ten digits of a DSD's layout
ten-digits : take 10 (drop 208 (layout dsd)) ≡ replicate 10 digit
unfolding layout dsd line_classes value_classes
ten-digits = refl

module _ (d : List ℕ) where
  digit_class : (k : ℕ) → k < 10 → get_or (layout dsd) (208 + k) plain ≡ digit
  digit_class k l =
      sym (get_or-take 10 (drop 208 (layout dsd)) k plain l ∙ get_or-drop 208 (layout dsd) k plain)
      ∙ ap (λ (ks : List Class). get_or ks k plain) ten-digits
      ∙ get_or-replicate 10 k digit plain l

  named_small : ((k : ℕ) → k < length (layout dsd) → T (fits (get_or (layout dsd) k plain) (get_or d k 0))) → 280 ≤ length d → (entry_of d).count.magnitude < 10 ^ 10
  unfolding entry_of value_of place_of width_of dsd line_classes value_classes quote_width value_width part number_of fits
  named_small all h =
      let e : length (take 10 (drop 208 d)) ≡ 10 = length-take-le 10 (drop 208 d) (omega (arith, length-drop 208 d)) in
      let b = digits_below (take 10 (drop 208 d)) 0
      (λ k l.
      let m : k < 10 = omega arith in
      rw (get_or-take 10 (drop 208 d) k 0 m, get_or-drop 208 d k 0) (rw (digit_class k m) at (all (208 + k) (omega (arith, dsd-length))))) in
      rw (drop-cons d 207 0 (omega arith)) (rw (e, one-mul) at b)

  pub count_small : (n e p : ℕ) → laid_out n e p (layout (lines_of d)) d ≡ accepted → (entry_of d).count.magnitude < 10 ^ 10
  unfolding lines_of
  count_small n e p h = go (eqb (byte_at d 0) 32) h
    where
      go : (t : Bool) → laid_out n e p (layout (cond t spare_dsd dsd)) d ≡ accepted → (entry_of d).count.magnitude < 10 ^ 10
      go true h =
          let r = laid_out-fits plain n e (layout spare_dsd) d p h in
          omega (arith, spare-count d (spare_blank d r.1) (omega (arith, r.0, spare-length)))
      go false h =
          let r = laid_out-fits plain n e (layout dsd) d p h in
          named_small r.1 (omega (arith, r.0, dsd-length))
