-- Lists of entries that rules 15 and 16 are judged of: what rules 1 to 14 leave of them, and the states that are looked at.
-- Assumes nothing.
use Rattle.std.specs.Prelude.{ℕ, ◌+◌, ◌^◌, ◌≤◌, ◌<◌, Bool, cond, ◌&&◌, List, ◌≡◌, eqb, pos, length}
use Rattle.layout.specs.Text.{whole}
use Rattle.layout.specs.Search.{count}
use Rattle.layout.specs.Entries.{Entry, eq_z, at, non_empty, start, extent}
use Rattle.layout.specs.States.{is_states_at, states_entry}
use Rattle.layout.specs.Faults.{NonEmpty, NumbersFit}
use Rattle.directory.specs.Numbers.{sets_of}
use Rattle.directory.specs.declared.Sets.{Sets}
use Rattle.states.specs.declared.StatesSpan.{StatesSpan}

-- up to 128 entries that fit a product of n bytes
pub record Fitting (ds : List Entry) (n : ℕ) : Type 0 where
  pub few : length ds ≤ 128
  pub long : n ≤ 2147483647
  pub counts : (i : ℕ) → i < length ds → (at ds i).count.magnitude < 10 ^ 10  -- NUM_DSR has ten digits
  pub numbers : (i : ℕ) → i < length ds → NumbersFit (at ds i)
  pub inside : (i : ℕ) → i < length ds → NonEmpty (at ds i) → start (at ds i) + extent (at ds i) ≤ n

-- the numbers of such entries
pub record Laid (sets : Sets) (n : ℕ) : Type 0 where
  pub entries : List Entry
  pub held : sets ≡ sets_of entries
  pub fits : Fitting entries n

-- so it is of all such entries that have these numbers
abbrev pub Every : Sets → (List Entry → Type 0) → Type 0
Every sets P = (ds : List Entry) (n : ℕ) → sets ≡ sets_of ds → Fitting ds n → P ds

-- ---- the states that rules 15 and 16 look at

-- those of the only entry that describes states, if it is not empty and its DSR_SIZE is 1,387
unfoldable pub are_looked_at : List Entry → Bool
are_looked_at ds =
    let e = at ds (states_entry ds) in
    eqb (count (is_states_at ds) 0 (length ds)) 1 && (non_empty e && eq_z (whole e.record_size) (pos 1387))

unfoldable pub span_of : List Entry → StatesSpan
span_of ds =
    let e = at ds (states_entry ds) in
    cond (are_looked_at ds) (record { place = start e; count = e.count.magnitude }) (record { place = 0; count = 0 })
