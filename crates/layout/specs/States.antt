-- State records (document 01, "State records and unequal lengths"): what a state answers, what is asked of it, and the tally of all states,
-- through which alone rules 15 and 16 look at bytes behind the headers.
-- Assumes nothing.
use Rattle.std.specs.Prelude.{ℕ, suc, ◌+◌, ◌*◌, ◌-◌, Bool, cond, ◌&&◌, ◌||◌, List, [], ◌∷◌, map, leb, eqb, length, get_or, replicate}
use Rattle.layout.specs.Bytes.{part, unsigned_at, within}
use Rattle.layout.specs.Answer.{◌⇒◌}
use Rattle.layout.specs.Search.{find, upto, sum}
use Rattle.layout.specs.Entries.{Entry, at, start, is_states}

-- the bytes of a state record, table 15.4.1.7.20-1
abbrev pub size_of_state : ℕ
size_of_state = 1387

-- what it answers
pub record State : Type 0 where
  pub flag : ℕ  -- 0 means records ARE attached
  pub kind : ℕ  -- 1 nadir, 2 limb, 3 occultation, 4 monitoring
  pub count : ℕ  -- number of DSRs
  pub record_length : ℕ  -- DSR length

-- the values of the 1,387 bytes of a state record
unfoldable pub state_of : List ℕ → State
state_of s = record { flag = unsigned_at s 12 1; kind = unsigned_at s 1116 1; count = unsigned_at s 1381 2; record_length = unsigned_at s 1383 4 }

-- flag 0 or 1 and, at flag 0 only, both kind 1 to 4 and length at least 1 if its count is at least 1
unfoldable pub state_fits : State → Bool
state_fits s = eqb s.flag 1 || (eqb s.flag 0 && (within 1 4 s.kind && (leb 1 s.count ⇒ leb 1 s.record_length)))

-- the state adds records to a set of this kind
unfoldable pub attached : ℕ → State → Bool
attached kind s = eqb s.flag 0 && eqb s.kind kind

-- the records that a state adds to a set of this kind: how many, their lengths, and their bytes
unfoldable pub state_count : ℕ → State → ℕ
state_count kind s = cond (attached kind s) s.count 0

unfoldable pub state_lengths : ℕ → State → List ℕ
state_lengths kind s = replicate (state_count kind s) s.record_length

unfoldable pub state_bytes : ℕ → State → ℕ
state_bytes kind s = state_count kind s * s.record_length

-- ---- the states of a product

unfoldable pub is_states_at : List Entry → ℕ → Bool
is_states_at ds i = is_states (at ds i)

-- the number of the first entry that describes states
unfoldable pub states_entry : List Entry → ℕ
states_entry ds = find (is_states_at ds) 0 (length ds)

-- where state k of the states' entry begins
unfoldable pub state_at : Entry → ℕ → ℕ
state_at e k = start e + 1387 * k

unfoldable pub state_in : List ℕ → Entry → ℕ → State
state_in b e k = state_of (part b (state_at e k) 1387)

-- the states of an entry; and of a product, those of the entry that describes them
unfoldable pub states_at : List ℕ → Entry → List State
states_at b e = map (state_in b e) (upto 0 e.count.magnitude)

unfoldable pub states_of : List ℕ → List Entry → List State
states_of b ds = states_at b (at ds (states_entry ds))

-- ---- the tally

pub record Tally : Type 0 where
  pub bad : ℕ  -- the number of the first state that does not fit; where all fit, how many there are
  pub counts : List ℕ  -- the records of kinds 1 to 4
  pub totals : List ℕ  -- their bytes

unfoldable pub first_bad : List State → ℕ
first_bad [] = 0
first_bad (s ∷ ss) = cond (state_fits s) (suc (first_bad ss)) 0

unfoldable pub count_of_kind : List State → ℕ → ℕ
count_of_kind ss kind = sum (map (state_count kind) ss)

unfoldable pub total_of_kind : List State → ℕ → ℕ
total_of_kind ss kind = sum (map (state_bytes kind) ss)

unfoldable pub tally_of : List State → Tally
tally_of ss = record { bad = first_bad ss; counts = map (count_of_kind ss) (upto 1 4); totals = map (total_of_kind ss) (upto 1 4) }

-- what a tally holds for a kind
unfoldable pub of_kind : List ℕ → ℕ → ℕ
of_kind l kind = get_or l (kind - 1) 0
