-- How a column is gathered: run by run, each of records of one length.
-- Assumes nothing.
use Rattle.std.specs.Prelude.{ℕ, ◌+◌, ◌*◌, ◌-◌, ◌≤◌, ◌<◌, min, List, map, ◌≡◌, ◌&&◌, leb, ltb, length, take, get_or, Result}
use Rattle.std.proofs.lemmas.List.Edits.{sets}
use Rattle.layout.specs.Bytes.{within, part}
use Rattle.layout.specs.Answer.{Answer, none, need, Reply, is, ◌or_else◌, ◌before◌}
use Rattle.layout.specs.Search.{upto, sum}
use Rattle.layout.specs.Entries.{directory, at, start}
use Rattle.layout.specs.Records.{lengths}
use Rattle.layout.specs.States.{states_of}
use Rattle.layout.specs.Fields.{field_in}
use Rattle.layout.specs.Answers.{verdict_is}
use Rattle.layout.specs.declared.Refusal.{Refusal}
use Rattle.directory.specs.declared.Sets.{Sets}
use Rattle.records.specs.Open.{Open}
use Rattle.fields.specs.Kinds.{narrow_number}
use Rattle.column.specs.Column.{converted, together, refusal_of}
use Rattle.column.specs.declared.gathering.Run.{Run}
use Rattle.column.specs.declared.gathering.Request.{Request}

-- what `Column.request_refusal` says of the entry and the kind, and then of the numbers of the records
unfoldable pub kind_refusal : (entries i kind : ℕ) → Answer
kind_refusal entries i kind = need (ltb i entries) 17 0 none or_else need (within 1 9 kind) 19 0 i or_else need (leb kind 7) 32 0 none

unfoldable pub count_refusal : (from to room : ℕ) → Answer
count_refusal from to room = need (leb from to && leb (to - from) 512) 32 0 none or_else need (leb (to - from) room) 33 0 none

-- a request that refusals 32 and 33 leave, for one record at least
pub record Fits (q : Request) (room : ℕ) : Type 0 where
  pub some : q.from < q.to
  pub few : q.to - q.from ≤ room

-- of an entry of an accepted product, whose directory's numbers these are
pub record Allowed (b : List ℕ) (sets : Sets) (q : Request) (room : ℕ) : Type 0 where
  pub opened : Open b sets
  pub there : q.entry < sets.entries
  pub fits : Fits q room

-- the request for record j of a run; for record j of a set that begins at a place and whose records have these lengths
unfoldable pub in_run : List ℕ → Request → Run → ℕ → Reply ℕ
in_run b q run j = converted (field_in (part b (run.place + (j - run.first) * run.size) run.size) q.entry q.offset (narrow_number q.kind))

unfoldable pub in_set : List ℕ → Request → ℕ → List ℕ → ℕ → Reply ℕ
in_set b q place ns j = need (ltb j (length ns)) 18 0 q.entry before converted (field_in (part b (place + sum (take j ns)) (get_or ns j 0)) q.entry q.offset (narrow_number q.kind))

-- how many values a request has when so many records of the set are passed
abbrev pub reached : Request → ℕ → ℕ
reached q passed = min passed q.to - q.from

-- the values that a run adds
unfoldable pub run_reply : List ℕ → Request → Run → Reply (List ℕ)
run_reply b q run = together (map (in_run b q run) (upto (q.from + reached q run.first) (reached q (run.first + run.count) - reached q run.first)))

-- all values
unfoldable pub set_reply : List ℕ → Request → ℕ → List ℕ → Reply (List ℕ)
set_reply b q place ns = together (map (in_set b q place ns) (upto q.from (q.to - q.from)))

abbrev pub entry_reply : List ℕ → Request → Reply (List ℕ)
entry_reply b q = let e = at (directory b) q.entry in set_reply b q (start e) (lengths (states_of b (directory b)) e)

-- all values stored from a place on; or what is refused, and then nothing is said of the column
pub record Gathered (reply : Reply (List ℕ)) (place : ℕ) (old new : List ℕ) (v : Result (Unit {0}) Refusal) : Type 0 where
  pub told : verdict_is v ≡ refusal_of reply
  pub stored : (xs : List ℕ) → reply ≡ is xs → new ≡ sets old place xs
