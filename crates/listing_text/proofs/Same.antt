-- What is written for a verdict, a length and a directory is the listing of document 01, for every input.
-- Assumes nothing.
use Prim.Native.Nat.{ℕ, zero, suc, ◌<◌}
use mathlib.Core.Bool.{Bool, true, false, cond}
use mathlib.Core.Logic.{inl, inr}
use mathlib.Core.Path.{◌≡◌, refl, sym, ap, ◌∙◌, subst}
use mathlib.Core.List.{List, [], ◌∷◌}
use native.Mathlib.Omega.{arith}
use lib.Dec.{T, eqb, ltb, eqb→eq}
use lib.IntN.{ℤ, pos, neg_ℤ}
use lib.Signed.{◌≤ℤ◌}
use lib.ListN.{length}
use borrow.Author.Tests.{eqb-false}
use Rattle.layout.specs.Bytes.{bytes}
use Rattle.layout.specs.Text.{Number, whole}
use Rattle.layout.specs.Answer.{Answer, accepted, refused}
use Rattle.layout.specs.Entries.{Entry, directory, at, is_data, start, extent}
use Rattle.layout.specs.Rules.{verdict}
use Rattle.layout.specs.Order.{rank_of}
use Rattle.layout.specs.Listing.{decimal, signed_decimal, trimmed, line_of, entry_line, accepted_lines, listing_for, listing}
use Rattle.layout.specs.Answers.{type_of, count_of, record_size_of, directory_of, directory_for, no_directory}
use Rattle.layout.proofs.Padded.{padded-at}
use Rattle.layout.proofs.Names.{name_same, name_width}
use Rattle.layout.proofs.Types.{Typed}
use Rattle.layout.specs.Faults.{NumbersFit}
use Rattle.layout.proofs.Tests.{data_T}
use Rattle.layout.proofs.Sound.{sound, last_of_four}
use Rattle.layout.proofs.Agree.{map-upto_same}
use Rattle.layout.proofs.Ranks.{answered}
use Rattle.listing_text.specs.declared.Listed.{Listed}
use Rattle.listing_text.specs.EntryLine.{entry_numbers, entry_words, entry_text}
use Rattle.listing_text.specs.Listing.{listed_of, entry_text_at, entry_texts, accepted_text, refusal_text, listing_of, longer_text}

-- ---- numbers

not_below : (n : Number) → pos 0 ≤ℤ whole n → decimal n.magnitude ≡ signed_decimal (whole n)
unfolding whole signed_decimal
not_below n h = go n.minus n.magnitude h
  where
    go : (m : Bool) (k : ℕ) → pos 0 ≤ℤ cond m (neg_ℤ (pos k)) (pos k) → decimal k ≡ signed_decimal (cond m (neg_ℤ (pos k)) (pos k))
    go true zero h = refl
    go true (suc k) h = absurd h.le
    go false k h = refl

is_zero : (n : Number) → whole n ≡ pos 0 → decimal n.magnitude ≡ signed_decimal (whole n)
is_zero n h = not_below n (subst (λ (z : ℤ). pos 0 ≤ℤ z) (sym h) (record { le = tt }))

-- an entry that is no spare is data, or all its numbers are zero
abbrev Unsigned : Entry → Type 0
Unsigned e =
    (decimal (start e) ≡ signed_decimal (whole e.offset))
    × ((decimal (extent e) ≡ signed_decimal (whole e.size)) × (decimal (count_of e) ≡ signed_decimal (whole e.count)))

unsigned : (e : Entry) → Typed e → NumbersFit e → (e.type ≡ 32 → ⊥) → Unsigned e
unfolding is_data start extent
unsigned e typed fit named = go typed (is_data e) refl
  where
    go : Typed e → (d : Bool) → is_data e ≡ d → Unsigned e
    go (inr s) d x = absurd (named s.0)
    go (inl m) true x =
        let r = (fit.1 ((data_T e).0 (subst (λ (t : Bool). T t) (sym x) tt))).0 in
        (not_below e.offset r.0, (not_below e.size r.1.0, not_below e.count r.1.1.0))
    go (inl m) false x =
        let r = fit.0 (eqb→eq e.type 82 (last_of_four (eqb e.type 77) (eqb e.type 65) (eqb e.type 71) (eqb e.type 82) m x)) in
        (is_zero e.offset r.0, (is_zero e.size r.1.0, is_zero e.count r.1.1.0))

-- ---- lines

module _ (ds : List Entry) (i : ℕ) (l : i < length ds) (wide : (k : ℕ) → k < length ds → length (at ds k).name ≡ 28) where
  abbrev listed : Entry → Listed
  listed e = record { number = i; ds_type = e.type; offset = start e; size = extent e; count = count_of e; record_size = record_size_of e; rank = rank_of ds i }

  listed_same : listed_of (directory_of ds) i ≡ listed (at ds i)
  unfolding listed_of directory_of
  listed_same =
      λ j. record {
        number = i;
        ds_type = padded-at type_of 0 128 ds i l j;
        offset = padded-at start 0 128 ds i l j;
        size = padded-at extent 0 128 ds i l j;
        count = padded-at count_of 0 128 ds i l j;
        record_size = padded-at record_size_of (pos 0) 128 ds i l j;
        rank = answered ds i l j;
      }

  -- a line's words behind the entry's number
  abbrev line : List (List ℕ) → List ℕ
  line words = line_of (bytes "entry" ∷ decimal i ∷ words)

  line_same : Typed (at ds i) → NumbersFit (at ds i) → entry_text_at (directory_of ds) i ≡ entry_line ds i
  unfolding entry_text_at entry_text entry_words entry_numbers entry_line
  line_same typed fit = ap (entry_text (directory_of ds).names) listed_same ∙ go (eqb (at ds i).type 32) refl
    where
      go : (t : Bool) → eqb (at ds i).type 32 ≡ t
          → cond t (line (bytes "spare" ∷ [])) (line (entry_words (directory_of ds).names (listed (at ds i))))
          ≡ cond t (line (bytes "spare" ∷ []))
          (line (((at ds i).type ∷ []) ∷ trimmed (at ds i).name ∷ signed_decimal (whole (at ds i).offset) ∷ signed_decimal (whole (at ds i).size) ∷ signed_decimal (whole (at ds i).count) ∷ signed_decimal (whole (at ds i).record_size) ∷ decimal (rank_of ds i) ∷ []))
      go true x = refl
      go false x =
          let u = unsigned (at ds i) typed fit (eqb-false (at ds i).type 32 x) in
          rw (name_same ds i l wide, u.0, u.1.0, u.1.1)

-- ---- listings

accepted_same : (b : List ℕ) → verdict b ≡ accepted → listing_of (verdict b) (length b) (directory_of (directory b)) ≡ listing_for (verdict b) (accepted_lines b (directory b))
unfolding listing_of listing_for accepted_text accepted_lines entry_texts directory_of
accepted_same b h =
    let good = sound b h in
    let ds = directory b in
    rw (h, map-upto_same (entry_text_at (directory_of ds)) (entry_line ds) 0 (length ds) (λ k l u. let m : k < length ds = omega arith in line_same ds k m (name_width b good) (good.headed.typed k m) (good.headed.numbers k m)))

refused_same : (b : List ℕ) (n p e : ℕ) → verdict b ≡ refused n p e → listing_of (verdict b) (length b) no_directory ≡ listing_for (verdict b) (accepted_lines b (directory b))
unfolding listing_of listing_for refusal_text
refused_same b n p e h = rw h

-- for every input: of at most 65,536 bytes what is written for its verdict, length and directory, else the line for a longer one
pub listing_same : (b : List ℕ) → listing b ≡ cond (ltb 65536 (length b)) longer_text (listing_of (verdict b) (length b) (directory_for (verdict b) b))
unfolding listing longer_text
listing_same b = go (verdict b) refl
  where
    go : (a : Answer) → verdict b ≡ a
        → cond (ltb 65536 (length b)) (line_of (bytes "longer" ∷ bytes "than" ∷ bytes "65536" ∷ [])) (listing_for (verdict b) (accepted_lines b (directory b)))
        ≡ cond (ltb 65536 (length b)) (line_of (bytes "longer" ∷ bytes "than" ∷ bytes "65536" ∷ [])) (listing_of (verdict b) (length b) (directory_for (verdict b) b))
    go accepted h = rw (← accepted_same b h, h)
    go (refused n p e) h = rw (← refused_same b n p e h, h)
