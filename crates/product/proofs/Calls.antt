-- What an opened product gives to the calls: its refusal, or what each call goes by; and the parts that it hands out.
-- Assumes nothing.
use Rattle.std.specs.Prelude.{Result, Ok, Err}
use Prim.Native.Nat.{ℕ, ◌+◌, ◌*◌, ◌-◌, ◌≤◌, ◌<◌}
use mathlib.Core.List.{List, []}
use mathlib.Core.Path.{◌≡◌, refl, sym, ap, ◌∙◌}
use native.Mathlib.Omega.{arith}
use lib.Dec.{ltb→lt}
use lib.ListN.{length}
use Rattle.layout.specs.Bytes.{part}
use Rattle.layout.specs.Answer.{accepted, refused, Reply, refusal, is, ◌else◌, ◌before◌}
use Rattle.layout.specs.Entries.{headers_end, entries, dsds_at, entries_from, directory, at}
use Rattle.layout.specs.States.{states_of}
use Rattle.layout.specs.Rules.{header_rules, verdict}
use Rattle.layout.specs.Records.{Span, lengths, record_at, record_length, record_part, record_refusal, record_place, sph_place, part_of}
use Rattle.layout.specs.Fields.{record_of}
use Rattle.layout.specs.Answers.{reply_is, place_is, span_is, directory_of}
use Rattle.layout.specs.declared.Refusal.{Refusal}
use Rattle.layout.specs.declared.Span.{Span as SpanAnswered}
use Rattle.layout.proofs.Laws.{or_else_accepts, need-accepts}
use Rattle.layout.proofs.Replies.{else_is, else_refusal}
use Rattle.layout.proofs.Sound.{both_accept, sound, directory_from, length-directory}
use Rattle.layout.proofs.Whole.{record-inside}
use Rattle.directory.specs.Numbers.{directory_with}
use Rattle.directory.proofs.Rules.{with_numbers}
use Rattle.opening.specs.Opening.{Opens}
use Rattle.opening.specs.declared.Opening.{Opening}
use Rattle.records.specs.Open.{Open}
use Rattle.records.proofs.Laws.{entries-few, entries-held}

module _ (b : List ℕ) (o : Opening) (opens : Opens b o) where
  module _ (a : verdict b ≡ accepted) where
    fourteen : header_rules b (length b) ≡ accepted
    fourteen = (both_accept b a).0

    pub now_open : Open b o.sets
    now_open = record { accepts = a; held = opens.held }

    all-entries : o.sets.entries ≡ entries b
    all-entries = entries-held b o.sets now_open ∙ length-directory b

    -- the DSDs lie behind the main header, and in the product
    pub now_dsds : (1247 ≤ o.dsds) × (o.dsds + 280 * o.sets.entries ≤ length b)
    unfolding dsds_at headers_end
    now_dsds =
        let m = (sound b a).headed in
        (omega (arith, opens.begin, m.dsds), omega (arith, opens.begin, all-entries, m.dsds, m.headers))

    pub now_few : o.sets.entries ≤ 128
    now_few = entries-few b o.sets now_open

    pub lines_are : o.dsds - 1247 ≡ dsds_at b - 1247
    lines_are = rw (opens.begin)

    pub now_directory : directory_with o.sets (entries_from b o.dsds o.sets.entries) ≡ directory_of (directory b)
    now_directory =
        ap (directory_with o.sets) (directory_from b o.dsds o.sets.entries (opens.begin) all-entries)
        ∙ with_numbers b (length b) fourteen o.sets (opens.held)

-- ---- places and parts

-- the span lies in the product
abbrev Within : List ℕ → Reply Span → Type 0
Within b a = (s : Span) → a ≡ is s → s.place + s.length ≤ length b

pub sph_within : (b : List ℕ) → Within b (sph_place b)
unfolding sph_place dsds_at headers_end
sph_within b s h =
    let r = else_is (verdict b) (record { place = 1247; length = dsds_at b - 1247 }) s h in
    let m = (sound b r.0).headed in
    let p = ap (λ (x : Span). x.place + x.length) r.1 in
    omega (arith, p, m.headers, m.dsds)

module _ (b : List ℕ) (i j : ℕ) where
  abbrev span : Span
  span = record { place = record_at (states_of b (directory b)) (at (directory b) i) j; length = record_length (states_of b (directory b)) (at (directory b) i) j }

  place_span : record_place b i j ≡ (record_refusal b i j else span)
  unfolding record_place
  place_span = refl

  there : record_refusal b i j ≡ accepted → (verdict b ≡ accepted) × ((i < length (directory b)) × (j < length (lengths (states_of b (directory b)) (at (directory b) i))))
  unfolding record_refusal
  there h =
      let r = simp (or_else_accepts, need-accepts) at h in
      (r.0, (ltb→lt i (length (directory b)) r.1.0, ltb→lt j (length (lengths (states_of b (directory b)) (at (directory b) i))) r.1.1))

  pub record-within : Within b (record_place b i j)
  record-within s h =
      let r = else_is (record_refusal b i j) span s (sym place_span ∙ h) in
      let t = there r.0 in
      let p = ap (λ (x : Span). x.place + x.length) r.1 in
      omega (arith, p, record-inside b (sound b t.0) i j t.1.0 t.1.1)

  -- the record that a place gives is layout's, and a refusal of the place is the field's
  record_there : (s : Span) → record_place b i j ≡ is s → (record_refusal b i j ≡ accepted) × (record_of b i j ≡ part b s.place s.length)
  unfolding record_of record_part
  record_there s h = let r = else_is (record_refusal b i j) span s (sym place_span ∙ h) in (r.0, ap (λ (x : Span). part b x.place x.length) r.1)

  record-refused : (n p e : ℕ) → record_place b i j ≡ refusal n p e → record_refusal b i j ≡ refused n p e
  record-refused n p e h = else_refusal (record_refusal b i j) span n p e (sym place_span ∙ h)

-- what a place is
module _ (b : List ℕ) (r : Result SpanAnswered Refusal) (a : Reply Span) (answered : place_is r ≡ a) where
  pub at_place : (s : SpanAnswered) → r ≡ Ok s → a ≡ is (span_is s)
  unfolding reply_is
  at_place s h = sym answered ∙ rw h

  pub no_place : (x : Refusal) → r ≡ Err x → a ≡ refusal x.number x.place x.entry
  unfolding reply_is
  no_place x h = sym answered ∙ rw h

  pub in_product : Within b a → (s : SpanAnswered) → r ≡ Ok s → s.place + s.length ≤ length b
  in_product w s h = w (span_is s) (at_place s h)

  pub part-is : (s : SpanAnswered) → r ≡ Ok s → part b s.place s.length ≡ part_of b a
  unfolding part_of
  part-is s h = rw (at_place s h)

  pub no_part : (x : Refusal) → r ≡ Err x → [] ≡ part_of b a
  unfolding part_of
  no_part x h = rw (no_place x h)

-- what a call reads of a record: the part that is there, or the place's refusal
module _ {A : Type 0} (b : List ℕ) (i j : ℕ) where
  pub reads_record : (F : List ℕ → Reply A) (s : SpanAnswered) → place_is (Ok s) ≡ record_place b i j → {l : List ℕ} → l ≡ part b s.place s.length → F l ≡ (record_refusal b i j before F (record_of b i j))
  reads_record F s h e = let t = record_there b i j (span_is s) (at_place b (Ok s) (record_place b i j) h s refl) in rw (t.0, t.1, e)

  pub reads_nothing : (x : Refusal) (y : Reply A) → place_is (Err x) ≡ record_place b i j → refusal x.number x.place x.entry ≡ (record_refusal b i j before y)
  reads_nothing x y h = rw (record-refused b i j x.number x.place x.entry (no_place b (Err x) (record_place b i j) h x refl))
