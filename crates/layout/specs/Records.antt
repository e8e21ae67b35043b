-- Records (document 01, "What the reader covers" and "State records and unequal lengths"): their lengths, where each begins, the part of the
-- product that it is, and refusals 17 and 18; and the SPH lines as a part.
-- Assumes nothing.
use Rattle.std.specs.Prelude.{ℕ, ◌+◌, ◌-◌, cond, List, [], map, ltb, length, take, get_or, replicate}
use Rattle.layout.specs.Bytes.{part}
use Rattle.layout.specs.Answer.{Answer, none, need, Reply, refusal, is, ◌or_else◌, ◌else◌}
use Rattle.layout.specs.Search.{upto, sum, join}
use Rattle.layout.specs.Entries.{Entry, directory, at, start, kind_of, is_variable, dsds_at}
use Rattle.layout.specs.States.{State, state_lengths, states_of}
use Rattle.layout.specs.Rules.{verdict}

-- a variable set's records are, for each state in order with flag 0 and the set's kind, its count of records of its length
unfoldable pub variable_lengths : List State → ℕ → List ℕ
variable_lengths ss kind = join (map (state_lengths kind) ss)

-- the lengths of a set's records, in order
unfoldable pub lengths : List State → Entry → List ℕ
lengths ss e =
    let unequal = variable_lengths ss (kind_of e) in
    let equal = replicate e.count.magnitude e.record_size.magnitude in
    cond (is_variable e) unequal equal

-- where record j of a set begins, its length, and its bytes
unfoldable pub record_at : List State → Entry → ℕ → ℕ
record_at ss e j = start e + sum (take j (lengths ss e))

unfoldable pub record_length : List State → Entry → ℕ → ℕ
record_length ss e j = get_or (lengths ss e) j 0

unfoldable pub record_part : List ℕ → List State → Entry → ℕ → List ℕ
record_part b ss e j = part b (record_at ss e j) (record_length ss e j)

-- all records of a set
unfoldable pub records : List ℕ → List State → Entry → List (List ℕ)
records b ss e = map (record_part b ss e) (upto 0 (length (lengths ss e)))

-- ---- the calls

pub record Span : Type 0 where
  pub place : ℕ
  pub length : ℕ

-- the part of the product that a call hands out: the empty part wherever it is refused
unfoldable pub part_of : List ℕ → Reply Span → List ℕ
part_of b (refusal n p e) = []
part_of b (is s) = part b s.place s.length

-- 17: the entry asked for is NUM_DSD or more; 18: the record asked for is not there
unfoldable pub record_refusal : List ℕ → ℕ → ℕ → Answer
record_refusal b i j =
    let ds = directory b in
    let there = need (ltb j (length (lengths (states_of b ds) (at ds i)))) 18 0 i in
    let known = need (ltb i (length ds)) 17 0 none or_else there in
    verdict b or_else known

-- where record j of entry i stands
unfoldable pub record_place : List ℕ → ℕ → ℕ → Reply Span
record_place b i j =
    let ds = directory b in
    let ss = states_of b ds in
    let span : Span = record { place = record_at ss (at ds i) j; length = record_length ss (at ds i) j } in
    record_refusal b i j else span

-- where the SPH lines stand
unfoldable pub sph_place : List ℕ → Reply Span
sph_place b = verdict b else record { place = 1247; length = dsds_at b - 1247 }
