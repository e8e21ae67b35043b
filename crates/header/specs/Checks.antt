-- Rules 1 to 6 of document 01 together, in the groups that the code checks, and what they give of an accepted header.
-- Assumes nothing.
use Rattle.std.specs.Prelude.{ℕ, ◌+◌, ◌*◌, ◌≤◌, List, [], Result, Ok, ◌≡◌}
use Rattle.layout.specs.Answer.{Answer, ◌or_else◌}
use Rattle.layout.specs.Entries.{headers_end, entries}
use Rattle.layout.specs.Rules.{rule1, rule2, rule4, rule5, rules1to6}
use Rattle.layout.specs.Answers.{verdict_is}
use Rattle.layout.specs.declared.Refusal.{Refusal}
use Rattle.header.specs.declared.HeaderCheck.{HeaderCheck}

-- rules 1 and 2 look at no byte
unfoldable pub length_rules : ℕ → Answer
length_rules n = rule1 [] n or_else rule2 [] n

unfoldable pub total_rules : List ℕ → ℕ → Answer
total_rules b n = rule4 b n or_else rule5 b n

-- where the headers end and how many directory entries there are: inside the product, with room for the DSDs
pub record HeadersFit (b : List ℕ) (n : ℕ) (r : HeaderCheck) : Type 0 where
  pub end_is : r.headers_end ≡ headers_end b
  pub entries-are : r.entries ≡ entries b
  pub inside : r.headers_end ≤ n
  pub entries-most : r.entries ≤ 128
  pub dsds-fit : 1247 + 280 * r.entries ≤ r.headers_end
  pub end_most : r.headers_end ≤ 50399

-- the answer to these rules, rule 6 the last of them
pub record CheckedBy (rules : Answer) (b : List ℕ) (n : ℕ) (r : Result HeaderCheck Refusal) : Type 0 where
  pub verdict-is : verdict_is r ≡ rules
  pub headers : (h : HeaderCheck) → r ≡ Ok h → HeadersFit b n h

abbrev pub HeaderChecked : List ℕ → ℕ → Result HeaderCheck Refusal → Type 0
HeaderChecked b n r = CheckedBy (rules1to6 b n) b n r
