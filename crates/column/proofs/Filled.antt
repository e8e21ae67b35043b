-- What a reply leaves in the lent room: a refusal nothing, values their places.
-- Assumes nothing.
use Rattle.std.specs.Prelude.{Result, Ok, IsErr, IsErrAnd}
use Prim.Native.Nat.{ℕ, ◌+◌, ◌-◌, ◌≤◌}
use mathlib.Core.List.{List, [], ◌++◌, map}
use mathlib.Core.Path.{◌≡◌, refl, sym, ap, ◌∙◌}
use native.Mathlib.Omega.{arith}
use lib.ListN.{length, take, drop}
use lib.Seq.{sets, sets-eq, take_at}
use Rattle.layout.specs.Answer.{accepted, refused, Reply, is}
use Rattle.layout.specs.Search.{upto}
use Rattle.layout.specs.Rules.{verdict}
use Rattle.layout.specs.Answers.{verdict_is}
use Rattle.layout.specs.declared.Refusal.{Refusal}
use Rattle.layout.proofs.Replies.{handed-verdict}
use Rattle.opening.specs.Opening.{OpenedInto}
use Rattle.directory.specs.declared.Sets.{Sets}
use Rattle.product.proofs.Calls.{now_open}
use Rattle.records.specs.Open.{Open}
use Rattle.records.proofs.Laws.{entries-held}
use Rattle.fields.specs.Kinds.{narrow_number}
use Rattle.fields.specs.declared.NarrowKind.{NarrowKind}
use Rattle.column.specs.Column.{asked, together, request_refusal, column_reply, refusal_of, column_in, ColumnIs}
use Rattle.column.specs.Gathering.{kind_refusal, count_refusal, Fits, Allowed, in_set, set_reply, entry_reply, Gathered}
use Rattle.column.specs.declared.gathering.Request.{Request}
use Rattle.column.proofs.Together.{is-refused, is_answered, each_value}
use Rattle.column.proofs.Requests.{in_two, good-says}
use Rattle.column.proofs.Asked.{ns, begin, all_asked}

-- a refusal that is handed on leaves the room
pub refused_column : (reply : Reply (List ℕ)) (room : List ℕ) (f : Refusal) → refused f.number f.place f.entry ≡ refusal_of reply
    → (v : Result (Unit {0}) Refusal) → IsErr v × IsErrAnd v (λ g. g ≡ f) → ColumnIs reply room room v
unfolding column_in
refused_column reply room f e v h = record { told = handed-verdict v f h ∙ e; written = rw (is-refused reply f.number f.place f.entry e) }

-- and so do no values
pub empty_column : (reply : Reply (List ℕ)) (room : List ℕ) → reply ≡ is [] → (x : Unit {0}) → ColumnIs reply room room (Ok x)
unfolding verdict_is refusal_of column_in
empty_column reply room h x = record { told = rw h; written = rw h }

-- values that were gathered are put into the first places
values_put : (b : List ℕ) (q : Request) (old column : List ℕ) → Fits q (length old) → ((xs : List ℕ) → entry_reply b q ≡ is xs → column ≡ sets old 0 xs) → (xs : List ℕ) → entry_reply b q ≡ is xs
    → (room : List ℕ) (y : Unit {0}) → ColumnIs (entry_reply b q) room (take (q.to - q.from) column ++ drop (q.to - q.from) room) (Ok y)
unfolding verdict_is refusal_of column_in set_reply
values_put b q old column fits stored xs given room y =
    let long = (each_value (in_set b q (begin b q) (ns b q)) q.from (q.to - q.from) xs given).0 in
    let first : take (q.to - q.from) column ≡ xs =
    ap (take (q.to - q.from)) (stored xs given ∙ sets-eq xs old 0 (omega (arith, long, fits.few))) ∙ take_at xs (drop (0 + length xs) old) (q.to - q.from) long in
    record { told = rw given; written = rw (first, given, long) }

pub gathered_put : (b : List ℕ) (q : Request) (old column : List ℕ) → Fits q (length old) → (x : Unit {0}) → Gathered (entry_reply b q) 0 old column (Ok x)
    → (room : List ℕ) (y : Unit {0}) → ColumnIs (entry_reply b q) room (take (q.to - q.from) column ++ drop (q.to - q.from) room) (Ok y)
unfolding verdict_is
gathered_put b q old column fits x g = let values = is_answered (entry_reply b q) g.told in values_put b q old column fits g.stored values.0 values.1

-- ---- the whole call

module _ (b : List ℕ) (entry from to offset kind room : ℕ) where
  abbrev reply : Reply (List ℕ)
  reply = column_reply b entry from to offset kind room

  -- a product's own refusal
  pub own_refusal : (f : Refusal) → refused f.number f.place f.entry ≡ verdict b → refused f.number f.place f.entry ≡ refusal_of reply
  unfolding column_reply refusal_of
  own_refusal f h = rw (← h)

  -- the request's, of an accepted product
  module _ (dsds : ℕ) (sets : Sets) (into : OpenedInto b (Ok dsds) sets) where
    opened : Open b sets
    unfolding verdict_is
    opened = now_open b (record { dsds = dsds; sets = sets }) (into.opens dsds refl) (sym into.judged)

    request_refused : (f : Refusal) → refused f.number f.place f.entry ≡ request_refusal sets.entries entry from to kind room → refused f.number f.place f.entry ≡ refusal_of reply
    unfolding column_reply refusal_of
    request_refused f h = rw (opened.accepts, ← entries-held b sets opened, ← h) refl

    pub kind_refused : (f : Refusal) → refused f.number f.place f.entry ≡ kind_refusal sets.entries entry kind → refused f.number f.place f.entry ≡ refusal_of reply
    kind_refused f h = request_refused f (rw (in_two sets.entries entry from to kind room, ← h))

    module _ (narrow : accepted ≡ kind_refusal sets.entries entry kind) where
      pub count_refused : (f : Refusal) → refused f.number f.place f.entry ≡ count_refusal from to room → refused f.number f.place f.entry ≡ refusal_of reply
      count_refused f h = request_refused f (rw (in_two sets.entries entry from to kind room, ← narrow, ← h))

      module _ (few : accepted ≡ count_refusal from to room) where
        good : request_refusal sets.entries entry from to kind room ≡ accepted
        good = rw (in_two sets.entries entry from to kind room, ← narrow, ← few)

        one_by_one : reply ≡ together (map (asked b entry offset kind) (upto from (to - from)))
        unfolding column_reply
        one_by_one = rw (opened.accepts, ← entries-held b sets opened, good) refl

        pub none-asked : from ≡ to → reply ≡ is []
        unfolding together
        none-asked e = let z : to - from ≡ 0 = omega arith in one_by_one ∙ rw z

        -- what is then asked for, by the kind of that number
        module _ (its : NarrowKind) (numbered : narrow_number its ≡ kind) where
          abbrev q : Request
          q = record { entry = entry; from = from; to = to; offset = offset; kind = its }

          pub request_allowed : (from ≡ to → ⊥) → Allowed b sets q 512 × (to - from ≤ room)
          request_allowed other =
              let w = good-says sets.entries entry from to kind room good in
              (record { opened = opened; there = w.0; fits = record { some = omega (arith, w.1.1.0.1.0); few = w.1.1.0.1.1 } }, w.1.1.1)

          -- the single requests' replies are left, which the set gives
          pub by_the_set : {old new : List ℕ} {v : Result (Unit {0}) Refusal} → ColumnIs (entry_reply b q) old new v → ColumnIs reply old new v
          by_the_set c = rw (one_by_one, ← numbered, all_asked b sets opened q (good-says sets.entries entry from to kind room good).0) c
