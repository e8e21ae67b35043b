-- Rules 12 and 13 over arrays of offsets and sizes: the tests of one set and of two by their numbers, and what the searches answer of any directory
-- that the arrays hold.
-- Assumes nothing.
use Rattle.std.specs.Prelude.{ℕ, ◌+◌, ◌-◌, ◌^◌, ◌≤◌, ◌<◌, Bool, false, ◌&&◌, not, Option, MatchOption, List, ◌≡◌, leb, ltb, eqb, length, get_or}
use Rattle.layout.specs.Answer.{Answer, need, ◌⇒◌}
use Rattle.layout.specs.Search.{first, some}
use Rattle.layout.specs.Entries.{Entry, at, start, extent, non_empty}
use Rattle.layout.specs.Rules.{rule12_at, rule13_at}

-- ---- sets by their numbers

-- a set of one byte or more lies between h, where the headers end, and n
unfoldable pub is_inside : ℕ → ℕ → ℕ → ℕ → Bool
is_inside h n offset size = ltb 0 size ⇒ (leb h offset && leb (offset + size) n)

-- the s bytes from a on and the t bytes from b on share one
unfoldable pub overlaps : ℕ → ℕ → ℕ → ℕ → Bool
overlaps a s b t = ltb 0 s && (ltb 0 t && (ltb a (b + t) && ltb b (a + s)))

unfoldable pub overlaps_at : List ℕ → List ℕ → ℕ → ℕ → Bool
overlaps_at offsets sizes i j = overlaps (get_or offsets i 0) (get_or sizes i 0) (get_or offsets j 0) (get_or sizes j 0)

-- the rules at one entry, by the arrays
unfoldable pub rule12_by : List ℕ → List ℕ → ℕ → ℕ → ℕ → Answer
rule12_by offsets sizes h n i = need (is_inside h n (get_or offsets i 0) (get_or sizes i 0)) 12 (get_or offsets i 0) i

unfoldable pub rule13_by : List ℕ → List ℕ → ℕ → Answer
rule13_by offsets sizes i = need (not (some (overlaps_at offsets sizes i) 0 i)) 13 (get_or offsets i 0) i

-- ---- what the searches answer

-- what a search below n answers: P of the number found, and of n where none is
abbrev pub FoundBelow : ℕ → (ℕ → Type 0) → Option ℕ → Type 0
FoundBelow n P answer = MatchOption answer (P n) (λ i. (i < n) × P i)

-- the largest number of 64 bits
abbrev pub largest : ℕ
largest = 2 ^ 64 - 1

-- a set of one byte or more lies between low and high; a high of the largest number stands for any end that is not below it
pub record Between (low high offset size : ℕ) : Type 0 where
  pub starts : 0 < size → low ≤ offset
  pub ends : 0 < size → high < largest → offset + size ≤ high

-- this set shares no byte with any set between low and high
unfoldable pub Clear : ℕ → ℕ → ℕ → ℕ → Type 0
Clear low high offset size = (b t : ℕ) → Between low high b t → overlaps offset size b t ≡ false

-- the arrays hold the offsets and sizes of a directory in which only entries with a set have a size, as rules 8 and 10 demand
pub record Held (ds : List Entry) (offsets sizes : List ℕ) : Type 0 where
  pub starts : (i : ℕ) → i < length ds → get_or offsets i 0 ≡ start (at ds i)
  pub extents : (i : ℕ) → i < length ds → get_or sizes i 0 ≡ extent (at ds i)
  pub filled : (i : ℕ) → i < length ds → non_empty (at ds i) ≡ ltb 0 (extent (at ds i))

-- r is the entry that rule 12 refuses, or the number of entries
pub record Outside (offsets sizes : List ℕ) (entries h n r : ℕ) : Type 0 where
  pub within : r ≤ entries
  pub answer : (ds : List Entry) → Held ds offsets sizes → length ds ≡ entries → first (rule12_at ds h n) 0 entries ≡ need (eqb r entries) 12 (get_or offsets r 0) r

-- r is the entry that rule 13 refuses, or the number of entries
pub record Overlapping (offsets sizes : List ℕ) (entries r : ℕ) : Type 0 where
  pub within : r ≤ entries
  pub answer : (ds : List Entry) → Held ds offsets sizes → length ds ≡ entries → first (rule13_at ds) 0 entries ≡ need (eqb r entries) 13 (get_or offsets r 0) r
