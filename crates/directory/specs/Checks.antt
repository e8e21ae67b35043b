-- What the checks of the directory answer (document 01, rules 7 to 14), over the bytes at hand and the length of the product.
-- Assumes nothing.
use Rattle.std.specs.Prelude.{ℕ, ◌+◌, ◌*◌, ◌-◌, ◌≤◌, ◌<◌, Bool, not, List, Result, ◌≡◌, eqb, length}
use Rattle.layout.specs.Answer.{Answer, ◌or_else◌}
use Rattle.layout.specs.Search.{first, find}
use Rattle.layout.specs.Entries.{Entry, headers_end, entries, dsds_at, at, numbers_fit}
use Rattle.layout.specs.Rules.{rule7, rule8, rule9, rule10, data_sets, rule11, rule12_at, rule13_at, rule14_at}
use Rattle.layout.specs.Answers.{verdict_is}
use Rattle.layout.specs.declared.Refusal.{Refusal}
use Rattle.dsd.specs.Held.{over_place, held_of, view_of, SpareByFirst}
use Rattle.placement.specs.Sets.{Held}
use Rattle.directory.specs.Numbers.{held_sets}
use Rattle.directory.specs.declared.Reading.{Reading}

-- ---- where the DSDs stand

-- the headers are at hand: where they end, and how many DSDs they have
pub record Headers (b : List ℕ) (end n : ℕ) : Type 0 where
  pub ends : end ≡ headers_end b
  pub all : n ≡ entries b
  pub most : n ≤ 128
  pub room : 1247 + 280 * n ≤ end
  pub inside : end ≤ length b

-- n DSDs begin at a place behind the main header, all there
pub record Dsds (b : List ℕ) (dsds n : ℕ) : Type 0 where
  pub begin : dsds ≡ dsds_at b
  pub all : n ≡ entries b
  pub most : n ≤ 128
  pub behind : 1247 ≤ dsds
  pub inside : dsds + 280 * n ≤ length b

-- of n DSDs from a place on the first byte tells the spares
abbrev pub SparesByFirst : List ℕ → ℕ → ℕ → Type 0
SparesByFirst b from n = (i : ℕ) → i < n → SpareByFirst b (from + 280 * i)

-- ---- what one reading of the entries counts

-- DS_OFFSET or DS_SIZE of entry i passes 2^63 - 1 (rule 9); its numbers, as they are held, break the rules (rule 10)
unfoldable pub over_at : List Entry → ℕ → Bool
over_at ds i = not (eqb (over_place (at ds i)) 0)

unfoldable pub unfit_at : List Entry → ℕ → Bool
unfit_at ds i = not (numbers_fit (view_of (held_of (at ds i))))

-- the entries in a row from the first on that neither rule refuses, and those that NUM_DATA_SETS counts (rule 11)
pub record Counted (ds : List Entry) (r : Reading) : Type 0 where
  pub nine : r.within ≡ find (over_at ds) 0 (length ds)
  pub ten : r.fitting ≡ find (unfit_at ds) 0 (length ds)
  pub eleven : r.counted ≡ data_sets ds

-- and these offsets are held
pub record ReadFrom (ds : List Entry) (r : Reading) (offsets : List ℕ) : Type 0 where
  pub counted : Counted ds r
  pub held : offsets ≡ (held_sets ds).offsets

-- ---- the rules together, as the code checks them

-- rules 7 and 8, which look at text
unfoldable pub text_rules : List ℕ → ℕ → Answer
text_rules b n = rule7 b n or_else rule8 b n

-- rules 9 to 11, which look at numbers
unfoldable pub number_rules : List ℕ → ℕ → Answer
number_rules b n = rule9 b n or_else (rule10 b n or_else rule11 b n)

-- rules 12 to 14, which look at where the sets lie behind the headers' end h
unfoldable pub place_rules : List Entry → ℕ → ℕ → Answer
place_rules ds h n = first (rule12_at ds h n) 0 (length ds) or_else (first (rule13_at ds) 0 (length ds) or_else first (rule14_at ds) h (n - h))

-- v is what they answer of all entries whose offsets and sizes are these
pub record Placed (offsets sizes : List ℕ) (k h n : ℕ) (v : Result (Unit {0}) Refusal) : Type 0 where
  pub answer : (ds : List Entry) → Held ds offsets sizes → length ds ≡ k → verdict_is v ≡ place_rules ds h n
