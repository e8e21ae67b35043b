-- A set of an accepted product as it is walked, and single requests by its records' lengths.
-- Assumes nothing.
use Rattle.std.specs.Prelude.{Result, Ok, Err, IsErr, IsErrAnd}
use Prim.Native.Nat.{ℕ, ◌+◌, ◌*◌, ◌-◌, ◌/◌, ◌≤◌, ◌<◌}
use mathlib.Core.Bool.{true, false}
use mathlib.Core.List.{List, [], ◌++◌, map, append-nil}
use mathlib.Core.Path.{◌≡◌, refl, sym, ap, ◌∙◌, subst}
use native.Mathlib.Omega.{arith}
use lib.Dec.{ltb}
use lib.ListN.{length, get_or, replicate}
use lib.Seq.{length-sets}
use borrow.Author.Tests.{lt-ltb}
use Rattle.layout.specs.Answer.{Answer, accepted, refused, need, Reply, ◌before◌}
use Rattle.layout.specs.Search.{upto}
use Rattle.layout.specs.Entries.{directory, at, start, is_variable, kind_of}
use Rattle.layout.specs.States.{State, size_of_state, states_of, state_count}
use Rattle.layout.specs.Records.{variable_lengths, lengths, record_at, record_length, record_part, record_refusal}
use Rattle.layout.specs.Fields.{Value, record_of, field_in, field_reply}
use Rattle.layout.specs.declared.Refusal.{Refusal}
use Rattle.layout.proofs.Agree.{map-upto_same}
use Rattle.directory.specs.declared.Sets.{Sets}
use Rattle.states.specs.States.{cap, state_from}
use Rattle.states.specs.Laid.{Every, span_of}
use Rattle.states.specs.declared.StatesSpan.{StatesSpan}
use Rattle.states.proofs.Laws.{rest_from, rest_whole, rest_lengths}
use Rattle.records.specs.Open.{Open}
use Rattle.records.proofs.Laws.{entries-few, entries-held, count-is, place_is_lem, few-records, equal_lengths, length-is, set-inside, unequal_lengths, in_product, many, same_lengths, states_inside}
use Rattle.column.specs.Column.{converted, asked, together}
use Rattle.column.specs.Gathering.{Fits, Allowed, in_set, reached, run_reply, set_reply, entry_reply, Gathered}
use Rattle.fields.specs.Kinds.{narrow_number}
use Rattle.column.specs.declared.gathering.Request.{Request}
use Rattle.column.specs.declared.gathering.Run.{Run}
use Rattle.column.proofs.Walk.{Walked, run_inside, at-start, walked_on, cut_short, all_there, too_few}

converted-before : (a : Answer) (r : Reply Value) → converted (a before r) ≡ (a before converted r)
unfolding converted
converted-before accepted r = refl
converted-before (refused n p e) r = refl

-- the lengths of the records of the entry, and where its set begins
abbrev pub ns : List ℕ → Request → List ℕ
ns b q = lengths (states_of b (directory b)) (at (directory b) q.entry)

abbrev pub begin : List ℕ → Request → ℕ
begin b q = start (at (directory b) q.entry)

module _ (b : List ℕ) (sets : Sets) (opened : Open b sets) (q : Request) (inside : q.entry < sets.entries) where
  -- a single request is answered by them
  asked_of : (j : ℕ) → asked b q.entry q.offset (narrow_number q.kind) j ≡ in_set b q (begin b q) (ns b q) j
  unfolding asked in_set field_reply record_refusal record_of record_part record_at record_length
  asked_of j =
      rw (opened.accepts, lt-ltb q.entry (length (directory b)) (omega (arith, entries-held b sets opened)))
      (converted-before (need (ltb j (length (ns b q))) 18 0 q.entry) (field_in (record_of b q.entry j) q.entry q.offset (narrow_number q.kind)))

  -- and so are all
  pub all_asked : together (map (asked b q.entry q.offset (narrow_number q.kind)) (upto q.from (q.to - q.from))) ≡ entry_reply b q
  unfolding set_reply
  all_asked = ap together (map-upto_same (asked b q.entry q.offset (narrow_number q.kind)) (in_set b q (begin b q) (ns b q)) q.from (q.to - q.from) (λ j l u. asked_of j))

-- ---- the records of an entry

module _ (b : List ℕ) (sets : Sets) (q : Request) (old : List ℕ) (allowed : Allowed b sets q (length old)) where
  abbrev opened : Open b sets
  opened = allowed.opened

  abbrev inside : q.entry < sets.entries
  inside = allowed.there

  abbrev count : ℕ
  count = get_or sets.counts q.entry 0

  abbrev place : ℕ
  place = get_or sets.offsets q.entry 0

  -- of one length
  module _ (equal : is_variable (at (directory b) q.entry) ≡ false) where
    begun : Walked b q (begin b q) (ns b q) old (ns b q) 0 place old
    begun = at-start b q (begin b q) (ns b q) old allowed.fits place (place_is_lem b sets opened q.entry inside)

    -- there is none
    pub none_there : count ≡ 0 → (v : Result (Unit {0}) Refusal) → v ≡ Err (record { number = 18; place = 0; entry = q.entry }) → Gathered (entry_reply b q) 0 old old v
    none_there e =
        let empty : ns b q ≡ [] = equal_lengths b sets opened q.entry inside equal ∙ rw (← count-is b sets opened q.entry inside, e) in
        too_few b q (begin b q) (ns b q) old allowed.fits begun empty (omega (arith, allowed.fits.some))

    module _ (some : 0 < count) where
      abbrev size : ℕ
      size = get_or sets.sizes q.entry 0 / count

      abbrev run : Run
      run = record { first = 0; place = place; count = count; size = size }

      one_run : ns b q ≡ replicate count size ++ []
      one_run = equal_lengths b sets opened q.entry inside equal ∙ rw (length-is b sets opened q.entry inside equal 0 some, count-is b sets opened q.entry inside, append-nil)

      pub one_inside : place + count * size ≤ length b
      one_inside = set-inside b sets opened q.entry inside equal 0 some

      pub one-few : 0 + count ≤ cap
      one-few = omega (arith, few-records b sets opened q.entry inside)

      module _ (new : List ℕ) where
        pub equal_cut : (f : Refusal) → Gathered (run_reply b q run) (reached q 0) old new (Err f)
            → (v : Result (Unit {0}) Refusal) → IsErr v × IsErrAnd v (λ g. g ≡ f) → Gathered (entry_reply b q) 0 old new v
        equal_cut = cut_short b q (begin b q) (ns b q) old allowed.fits begun count size [] new one_run

        module _ (x : Unit {0}) (g : Gathered (run_reply b q run) (reached q 0) old new (Ok x)) where
          passed : Walked b q (begin b q) (ns b q) old [] (0 + count) (place + count * size) new
          passed = walked_on b q (begin b q) (ns b q) old allowed.fits begun count size [] new one_run x g

          pub equal_few : count < q.to → (v : Result (Unit {0}) Refusal) → v ≡ Err (record { number = 18; place = 0; entry = q.entry }) → Gathered (entry_reply b q) 0 old new v
          equal_few l = too_few b q (begin b q) (ns b q) old allowed.fits passed refl (omega arith)

          pub equal_all : q.to ≤ count → (y : Unit {0}) → Gathered (entry_reply b q) 0 old new (Ok y)
          equal_all l = all_there b q (begin b q) (ns b q) old allowed.fits passed (omega arith)

  -- of unequal lengths, by the states
  module _ (unequal : is_variable (at (directory b) q.entry) ≡ true) (kind : ℕ) (its-kind : kind ≡ kind_of (at (directory b) q.entry)) (s : StatesSpan) (spanned : Every sets (λ ds. s ≡ span_of ds)) where
    abbrev rest : ℕ → List ℕ
    rest i = variable_lengths (rest_from b s.place s.count i) kind

    pub all_states : (s.place + size_of_state * s.count ≤ length b) × Walked b q (begin b q) (ns b q) old (rest 0) 0 place old
    all_states =
        let all : ns b q ≡ rest 0 = unequal_lengths b sets opened q.entry inside unequal ∙ sym (same_lengths b sets opened q.entry inside unequal s spanned 0 kind its-kind) ∙ rw rest_whole in (
          states_inside b sets opened q.entry inside unequal s spanned,
          subst (λ (l : List ℕ). Walked b q (begin b q) (ns b q) old l 0 place old) all (at-start b q (begin b q) (ns b q) old allowed.fits place (place_is_lem b sets opened q.entry inside)),
        )

    -- the run that a state gives is next
    module _ (i first at : ℕ) (column : List ℕ) (w : Walked b q (begin b q) (ns b q) old (rest i) first at column)
        (l : i < s.count) (state : State) (read : state ≡ state_from b s.place i) (m : ℕ) (adds : m ≡ state_count kind state) where
      abbrev next_run : Run
      next_run = record { first = first; place = at; count = m; size = state.record_length }

      next : rest i ≡ replicate m state.record_length ++ rest (i + 1)
      next = rest_lengths b s.place s.count kind i state m l read adds

      pub run-asked : Fits q (length column) × (at + m * state.record_length ≤ length b) × (first + m ≤ cap)
      run-asked =
          let lens = unequal_lengths b sets opened q.entry inside unequal in
          let r = run_inside b q (begin b q) (ns b q) old w m state.record_length (rest (i + 1)) next in (
            rw (w.stored, length-sets) allowed.fits,
            omega (arith, r.0, rw (← lens) at (in_product b sets opened q.entry inside unequal)),
            omega (arith, r.1, rw (← lens) at (many b sets opened q.entry inside unequal)),
          )

      module _ (new : List ℕ) where
        pub run_passed : (x : Unit {0}) → Gathered (run_reply b q next_run) (reached q first) column new (Ok x)
            → Walked b q (begin b q) (ns b q) old (rest (i + 1)) (first + m) (at + m * state.record_length) new
        run_passed = walked_on b q (begin b q) (ns b q) old allowed.fits w m state.record_length (rest (i + 1)) new next

        pub run_refused : (f : Refusal) → Gathered (run_reply b q next_run) (reached q first) column new (Err f)
            → (v : Result (Unit {0}) Refusal) → IsErr v × IsErrAnd v (λ g. g ≡ f) → Gathered (entry_reply b q) 0 old new v
        run_refused = cut_short b q (begin b q) (ns b q) old allowed.fits w m state.record_length (rest (i + 1)) new next

-- the entry is one of 128
pub few : (b : List ℕ) (sets : Sets) (q : Request) (room : ℕ) → Allowed b sets q room → q.entry < 128
few b sets q room allowed = let there = allowed.there in omega (arith, entries-few b sets allowed.opened)
