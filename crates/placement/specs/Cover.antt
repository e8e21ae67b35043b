-- Rule 14 over arrays of offsets and sizes: which bytes the sets hold, and what the search answers of any directory that the arrays hold; and rules 12
-- to 14 where none of the three searches finds anything.
-- Assumes nothing.
use Rattle.std.specs.Prelude.{ℕ, ◌+◌, ◌-◌, ◌≤◌, ◌<◌, Bool, false, ◌&&◌, List, ◌≡◌, leb, ltb, eqb, length, get_or}
use Rattle.layout.specs.Answer.{Answer, none, need}
use Rattle.layout.specs.Search.{first, some}
use Rattle.layout.specs.Entries.{Entry}
use Rattle.layout.specs.Rules.{rule14_at}
use Rattle.placement.specs.Sets.{Held, Outside, Overlapping}

-- a set holds the byte p
unfoldable pub covers : ℕ → ℕ → ℕ → Bool
covers p offset size = ltb 0 size && (leb offset p && ltb p (offset + size))

unfoldable pub covers_at : List ℕ → List ℕ → ℕ → ℕ → Bool
covers_at offsets sizes p i = covers p (get_or offsets i 0) (get_or sizes i 0)

-- one of the sets of n entries holds the byte p
unfoldable pub is_covered : List ℕ → List ℕ → ℕ → ℕ → Bool
is_covered offsets sizes n p = some (covers_at offsets sizes p) 0 n

-- the rule at one byte, by the arrays
unfoldable pub rule14_by : List ℕ → List ℕ → ℕ → ℕ → Answer
rule14_by offsets sizes n p = need (is_covered offsets sizes n p) 14 p none

-- r is an entry whose set holds the byte p, or the number n of entries where none does
pub record Holding (offsets sizes : List ℕ) (n p r : ℕ) : Type 0 where
  pub within : r ≤ n
  pub found : r < n → (get_or offsets r 0 ≤ p) × (p < get_or offsets r 0 + get_or sizes r 0)
  pub missed : n ≤ r → is_covered offsets sizes n p ≡ false

-- r is the byte that rule 14 refuses, or the length n
pub record Uncovered (offsets sizes : List ℕ) (entries h n r : ℕ) : Type 0 where
  pub within : r ≤ n
  pub answer : (ds : List Entry) → Held ds offsets sizes → length ds ≡ entries → first (rule14_at ds) h (n - h) ≡ need (eqb r n) 14 r none

-- no entry and no byte is one that rules 12 to 14 refuse
pub record NoneFound (offsets sizes : List ℕ) (entries h n : ℕ) : Type 0 where
  pub inside : Outside offsets sizes entries h n entries
  pub apart : Overlapping offsets sizes entries entries
  pub covered : Uncovered offsets sizes entries h n n
