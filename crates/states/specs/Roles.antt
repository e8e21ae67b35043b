-- Rules 15 and 16 by the arrays of a directory.
-- Assumes nothing.
use Rattle.std.specs.Prelude.{ℕ, ◌+◌, ◌*◌, Bool, false, ◌&&◌, not, List, leb, ltb, eqb, get_or}
use Rattle.layout.specs.Answer.{Answer, need, where', ◌or_else◌}
use Rattle.layout.specs.Search.{some, find, only}
use Rattle.layout.specs.States.{of_kind}
use Rattle.dsd.specs.declared.Role.{Role}
use Rattle.dsd.specs.declared.Role.TheVariants.{Other, Variable, States, Unknown}
use Rattle.dsd.specs.Held.{kind_number, of_variable, of_states}
use Rattle.directory.specs.declared.Sets.{Sets}
use Rattle.states.specs.declared.Tally.{Tally}

-- entry i is a variable set; entry i describes the states
unfoldable pub varies_at : List Role → ℕ → Bool
varies_at roles i = of_variable (get_or roles i Other)

unfoldable pub describes_at : List Role → ℕ → Bool
describes_at roles i = of_states (get_or roles i Other)

-- one of n entries is a variable set
unfoldable pub has_variable : List Role → ℕ → Bool
has_variable roles n = some (varies_at roles) 0 n

-- the entry that describes the states, if exactly one of n entries does, else n
unfoldable pub only_states : List Role → ℕ → ℕ
only_states roles n = only (describes_at roles) n

-- a variable set of this role, whose records, of which a tally has these counts and totals, do not fill it
unfoldable pub unfilled : Role → ℕ → ℕ → List ℕ → List ℕ → Bool
unfilled (Variable kind) count size tallied totals =
    not (eqb (of_kind tallied (kind_number kind)) count && eqb (of_kind totals (kind_number kind)) size)
unfilled States count size tallied totals = false
unfilled Other count size tallied totals = false
unfilled (Unknown n) count size tallied totals = false

unfoldable pub unfilled_at : List Role → List ℕ → List ℕ → List ℕ → List ℕ → ℕ → Bool
unfilled_at roles counts sizes tallied totals i = unfilled (get_or roles i Other) (get_or counts i 0) (get_or sizes i 0) tallied totals

-- rule 16 by the arrays: the first such set is refused
unfoldable pub rule16_by : Sets → List ℕ → List ℕ → Answer
rule16_by sets tallied totals =
    let found = find (unfilled_at sets.roles sets.counts sets.sizes tallied totals) 0 sets.entries in
    need (eqb found sets.entries) 16 (get_or sets.offsets found 0) found

-- rules 15 and 16 by the arrays and a tally, where entry i and no other describes the states
unfoldable pub described_by : Sets → ℕ → Tally → Answer
described_by sets i t =
    let place = get_or sets.offsets i 0 in
    let size = get_or sets.sizes i 0 in
    let count = get_or sets.counts i 0 in
    where' (ltb 0 size) (need (eqb size (1387 * count)) 15 place i or_else need (leb count t.bad) 15 (place + 1387 * t.bad) i)
    or_else rule16_by sets t.counts t.totals
