-- What an entry is, by the places of its values in the product; that numbers of ten digits are far below 2^63; and what is held of a spare, which rule 8
-- lets the first byte tell.
-- Assumes nothing.
use Prim.Native.Nat.{ℕ, zero, suc, ◌+◌, ◌*◌, ◌-◌, ◌≤◌, ◌<◌, suc-le-suc}
use mathlib.Core.Bool.{Bool, true, false, cond}
use mathlib.Core.List.{List, [], ◌∷◌}
use mathlib.Core.Path.{◌≡◌, refl, sym, ap, ◌∙◌}
use native.Mathlib.Omega.{arith}
use native.Mathlib.Nat.{le_trans, add-zero}
use lib.Dec.{eqb, eqb→eq, lit≤}
use lib.ListN.{length, take, drop, get_or, length-drop}
use lib.Seq.{take-take, drop-drop, get_or-take, get_or-drop, length-take-le}
use Rattle.layout.specs.Bytes.{part, byte_at}
use Rattle.layout.specs.Text.{fits, literal, layout, line_classes, value_classes, value_width, quote_width, place_of, width_of, value_of, digits, number_of}
use Rattle.layout.specs.Lines.{dsd, spare_dsd}
use Rattle.layout.specs.Answer.{accepted, need}
use Rattle.layout.specs.Search.{laid_out}
use Rattle.layout.specs.Entries.{Entry, entry_of, called}
use Rattle.layout.specs.Rules.{lines_of}
use Rattle.layout.proofs.Laws.{accepted≢refused, need-accepts, or_else_accepts}
use Rattle.layout.proofs.Agree.{part_of-take}
use Rattle.text.proofs.Parts.{byte_part}
use Rattle.text.specs.Numbers.{capped, number_in}
use Rattle.text.specs.declared.Number.{Number as HeldNumber}
use Rattle.dsd.specs.declared.Entry.{Entry as HeldEntry}
use Rattle.dsd.specs.declared.Role.{Role}
use Rattle.dsd.specs.declared.Role.TheVariants.{Other}
use Rattle.dsd.specs.Held.{name_role, held_of, spare_bytes, SpareByFirst, Read}

-- ---- places

module _ (b : List ℕ) (start : ℕ) where
  in_part : (o w : ℕ) → o + w ≤ 280 → part (part b start 280) o w ≡ part b (start + o) w
  unfolding part
  in_part o w h = part_of-take w o 280 (drop start b) h ∙ ap (take w) (drop-drop o start b)

  first_byte : (o : ℕ) → o + 1 ≤ 280 → byte_at (part (part b start 280) o 1) 0 ≡ get_or b (start + o) 0
  unfolding byte_at part
  first_byte o h =
      ap (λ (l : List ℕ). get_or l 0 0) (part_of-take 1 o 280 (drop start b) h)
      ∙ get_or-take 1 (drop o (drop start b)) 0 0 (omega arith)
      ∙ get_or-drop o (drop start b) 0 0
      ∙ get_or-drop start b (o + 0) 0
      ∙ (let q : start + (o + 0) ≡ start + o = omega arith in ap (λ (k : ℕ). get_or b k 0) q)

  abbrev placed : Entry
  placed =
      record {
        type = get_or b (start + 47) 0;
        name = part b (start + 9) 28;
        filename = part b (start + 59) 62;
        offset = number_of (part b (start + 133) 21);
        size = number_of (part b (start + 170) 21);
        count = number_of (part b (start + 207) 11);
        record_size = number_of (part b (start + 228) 11);
      }

  pub entry_placed : entry_of (part b start 280) ≡ placed
  unfolding entry_of value_of place_of width_of dsd line_classes value_classes quote_width value_width
  entry_placed =
      λ j. record {
        type = first_byte 47 (lit≤ tt) j;
        name = in_part 9 28 (lit≤ tt) j;
        filename = in_part 59 62 (lit≤ tt) j;
        offset = number_of (in_part 133 21 (lit≤ tt) j);
        size = number_of (in_part 170 21 (lit≤ tt) j);
        count = number_of (in_part 207 11 (lit≤ tt) j);
        record_size = number_of (in_part 228 11 (lit≤ tt) j);
      }

-- ---- short numbers

-- the most that n bytes make of what stands before them
abbrev grown : ℕ → ℕ → ℕ
grown zero s = s
grown (suc n) s = grown n (s * 10 + 207)

grown_mono : (n s t : ℕ) → s ≤ t → grown n s ≤ grown n t
grown_mono zero s t h = h
grown_mono (suc n) s t h = grown_mono n (s * 10 + 207) (t * 10 + 207) (omega arith)

digits-most : (xs : List ℕ) (s : ℕ) → ((k : ℕ) → k < length xs → get_or xs k 0 < 256) → digits s xs ≤ grown (length xs) s
unfolding digits
digits-most [] s h = omega arith
digits-most (x ∷ xs) s h =
    le_trans (digits-most xs (cond (eqb x 46) s (s * 10 + (x - 48))) (λ k l. h (suc k) (suc-le-suc l)))
    (grown_mono (length xs) (cond (eqb x 46) s (s * 10 + (x - 48))) (s * 10 + 207) (go (eqb x 46)))
  where
    go : (t : Bool) → cond t s (s * 10 + (x - 48)) ≤ s * 10 + 207
    go true = omega arith
    go false = omega (arith, h 0 (suc-le-suc (omega arith)))

number-most : (l : List ℕ) → length l ≡ 11 → ((k : ℕ) → k < length l → get_or l k 0 < 256) → (number_of l).magnitude ≤ 999999999999
unfolding number_of
number-most [] e h = omega arith
number-most (x ∷ xs) e h =
    let q : length xs ≡ 10 = omega arith in
    let m : digits 0 xs ≤ grown 10 0 = rw q at (digits-most xs 0 (λ k l. h (suc k) (suc-le-suc l))) in
    omega arith

module _ (b : List ℕ) (bytes : (k : ℕ) → get_or b k 0 < 256) (at : ℕ) (fits : at + 11 ≤ length b) where
  short_most : (number_of (part b at 11)).magnitude ≤ 999999999999
  unfolding part
  short_most =
      let e : length (take 11 (drop at b)) ≡ 11 = length-take-le 11 (drop at b) (omega (arith, length-drop at b)) in
      number-most (take 11 (drop at b)) e
      (λ k l. let m : k < 11 = omega arith in rw (get_or-take 11 (drop at b) k 0 m, get_or-drop at b k 0) (bytes (at + k)))

  pub short_number : number_in b at 11 ≡ record { minus = (number_of (part b at 11)).minus; magnitude = (number_of (part b at 11)).magnitude }
  unfolding number_in capped
  short_number =
      let e : capped (number_of (part b at 11)).magnitude ≡ (number_of (part b at 11)).magnitude = omega (arith, short_most) in
      λ j. record { minus = (number_of (part b at 11)).minus; magnitude = e j }

-- ---- what the constructor answers

module _ (b : List ℕ) (bytes : (k : ℕ) → get_or b k 0 < 256) (start : ℕ) (fits : start + 280 ≤ length b) where
  pub read_entry : {o s n r : HeldNumber} {role : Role}
      → o ≡ number_in b (start + 133) 21 → s ≡ number_in b (start + 170) 21 → n ≡ number_in b (start + 207) 11 → r ≡ number_in b (start + 228) 11
      → role ≡ name_role (part b (start + 9) 28)
      → Read b start (record { ds_type = get_or b (start + 47) 0; offset = o; size = s; count = n; record_size = r; name_role = role })
  unfolding held_of number_in
  read_entry eo es en er ek =
      record {
        is =
            (λ j. record {
              ds_type = get_or b (start + 47) 0;
              offset = eo j;
              size = es j;
              count = (en ∙ short_number b bytes (start + 207) (omega arith)) j;
              record_size = (er ∙ short_number b bytes (start + 228) (omega arith)) j;
              name_role = ek j;
            })
            ∙ ap held_of (sym (entry_placed b start));
        small =
            let q = ap (λ (x : HeldNumber). x.magnitude) (er ∙ short_number b bytes (start + 228) (omega arith)) in
            omega (arith, short_most b bytes (start + 228) (omega arith));
      }

-- ---- a spare

abbrev no_number : HeldNumber
no_number = record { minus = false; magnitude = 0 }

pub held-spare : record { ds_type = 32; offset = no_number; size = no_number; count = no_number; record_size = no_number; name_role = Other } ≡ held_of (entry_of spare_bytes)
unfolding held_of entry_of value_of place_of width_of dsd line_classes value_classes quote_width value_width byte_at part number_of digits capped name_role called spare_bytes
held-spare = refl

-- bytes laid out as a text are the text
laid-text : (n e : ℕ) (xs d : List ℕ) (p : ℕ) → laid_out n e p (literal xs) d ≡ accepted → take (length xs) d ≡ xs
unfolding laid_out fits
laid-text n e [] d p h = refl
laid-text n e (x ∷ xs) [] p h = absurd (accepted≢refused (sym h))
laid-text n e (x ∷ xs) (y ∷ d) p h =
    let both = (or_else_accepts (need (eqb y x) n p e) (laid_out n e (suc p) (literal xs) d)).0 h in
    rw (eqb→eq y x ((need-accepts (eqb y x) n p e).0 both.0), laid-text n e xs d (suc p) both.1)

spare-text : layout spare_dsd ≡ literal spare_bytes
unfolding layout spare_dsd line_classes spare_bytes
spare-text = refl

module _ (b : List ℕ) (start : ℕ) where
  pub read-spare : {r : HeldEntry} → r ≡ held_of (entry_of spare_bytes) → part b start 280 ≡ spare_bytes → Read b start r
  read-spare e s = record { is = rw s e; small = rw (e, ← held-spare) (lit≤ tt) }

  whole : take (length spare_bytes) (part b start 280) ≡ part b start 280
  unfolding part spare_bytes
  whole = take-take 280 280 (drop start b) (lit≤ tt)

  pub spare_by_first : (n e p : ℕ) → laid_out n e p (layout (lines_of (part b start 280))) (part b start 280) ≡ accepted → SpareByFirst b start
  unfolding lines_of
  spare_by_first n e p h blank =
      let first : byte_at (part b start 280) 0 ≡ 32 = byte_part b start 280 0 (lit≤ tt) ∙ rw (add-zero start) blank in
      sym whole ∙ laid-text n e spare_bytes (part b start 280) p (rw (first, spare-text) at h)
