-- What the calls on states answer, in the words of the layout definition. A sum that could pass 64 bits is capped at 2^62: 1,548,292 states, which a
-- product can hold, can total 4.4e20 bytes.
-- Assumes nothing.
use Rattle.std.specs.Prelude.{ℕ, ◌+◌, ◌*◌, ◌-◌, ◌≤◌, cond, ◌&&◌, List, [], ◌∷◌, map, leb, ltb, eqb, length, take, get_or, set, replicate, Option, Some, None}
use Rattle.layout.specs.Bytes.{part, within}
use Rattle.layout.specs.Search.{upto, sum}
use Rattle.layout.specs.States.{State, state_of, state_fits, state_count, state_bytes, Tally, of_kind}
use Rattle.states.specs.declared.State.{State as StateRead}
use Rattle.states.specs.declared.Tally.{Tally as TallyRead}
use Rattle.states.specs.declared.Found.{Found}

-- the layout's state with these numbers, and that which a State is
abbrev pub state : ℕ → ℕ → ℕ → ℕ → State
state flag kind count length = record { flag = flag; kind = kind; count = count; record_length = length }

unfoldable pub state_is : StateRead → State
state_is s = state s.flag s.kind s.count s.record_length

-- the states whose records begin at a place and follow each other
unfoldable pub state_from : List ℕ → ℕ → ℕ → State
state_from b start k = state_of (part b (start + 1387 * k) 1387)

unfoldable pub states_from : List ℕ → ℕ → ℕ → List State
states_from b start n = map (state_from b start) (upto 0 n)

-- ---- sums

abbrev pub cap : ℕ  -- 2^62
cap = 4611686018427387904

unfoldable pub capped : ℕ → ℕ
capped n = cond (leb n cap) n cap

-- sums that are each capped
abbrev pub Capped : List ℕ → Type 0
Capped l = (i : ℕ) → get_or l i 0 ≤ cap

-- so much more for one of the kinds 1 to 4; the other sums stay
unfoldable pub added : List ℕ → ℕ → ℕ → List ℕ
added l kind more = cond (within 1 4 kind) (set l (kind - 1) (capped (of_kind l kind + more))) l

-- ---- the tally

-- the tally with its sums capped
unfoldable pub tally_is : Tally → TallyRead
tally_is t = record { bad = t.bad; counts = map capped t.counts; totals = map capped t.totals }

-- what is held, capped or not, as the layout's tally
unfoldable pub tally_from : TallyRead → Tally
tally_from t = record { bad = t.bad; counts = t.counts; totals = t.totals }

abbrev pub tally : ℕ → List ℕ → List ℕ → TallyRead
tally bad counts totals = record { bad = bad; counts = counts; totals = totals }

-- a tally with one more state, number i
unfoldable pub with_state : TallyRead → State → ℕ → TallyRead
with_state t s i =
    tally
    (cond (eqb t.bad i && state_fits s) (t.bad + 1) t.bad)
    (added t.counts s.kind (state_count s.kind s))
    (added t.totals s.kind (state_bytes s.kind s))

-- with more states, from number i on
unfoldable pub after : TallyRead → ℕ → List State → TallyRead
after t i [] = t
after t i (s ∷ ss) = after (with_state t s i) (i + 1) ss

-- before the first state
abbrev pub no_tally : TallyRead
no_tally = tally 0 (replicate 4 0) (replicate 4 0)

-- ---- records of a variable set

-- where record j lies among records of these lengths, behind so many bytes
unfoldable pub found_behind : ℕ → List ℕ → ℕ → Option Found
found_behind before ns j = cond (ltb j (length ns)) (Some (record { before = capped (before + sum (take j ns)); length = get_or ns j 0 })) None

unfoldable pub found : List ℕ → ℕ → Option Found
found ns j = found_behind 0 ns j
