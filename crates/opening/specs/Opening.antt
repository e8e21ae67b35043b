-- Rules 1 to 14 in the two steps that opening takes, those of text and those of the sets, and what it answers.
-- Assumes nothing.
use Rattle.std.specs.Prelude.{ℕ, List, Result, Ok, ◌≡◌}
use Rattle.layout.specs.Answer.{Answer, accepted, ◌or_else◌}
use Rattle.layout.specs.Answers.{verdict_is}
use Rattle.layout.specs.Entries.{Entry, headers_end, dsds_at, directory}
use Rattle.layout.specs.Rules.{rules1to6, header_rules, verdict}
use Rattle.layout.specs.declared.Refusal.{Refusal}
use Rattle.header.specs.declared.HeaderCheck.{HeaderCheck}
use Rattle.directory.specs.Numbers.{sets_of, held_sets}
use Rattle.directory.specs.Checks.{Headers, ReadFrom, text_rules, number_rules, place_rules}
use Rattle.directory.specs.declared.Reading.{Reading}
use Rattle.directory.specs.declared.Sets.{Sets}
use Rattle.opening.specs.declared.Opening.{Opening}

-- the main header, and the longest SPH that rule 6 allows
abbrev pub longest_headers : ℕ
longest_headers = 50399

-- ---- the steps

-- rules 1 to 8
unfoldable pub front_rules : List ℕ → ℕ → Answer
front_rules b n = let text = text_rules b n in rules1to6 b n or_else text

-- rules 9 to 14
unfoldable pub set_rules : List ℕ → ℕ → Answer
set_rules b n = let places = place_rules (directory b) (headers_end b) n in number_rules b n or_else places

-- ---- what they answer

-- rules 1 to 8 hold: where the headers end, and how many DSDs they have
pub record Fronted (b : List ℕ) (n : ℕ) (r : HeaderCheck) : Type 0 where
  pub rules : front_rules b n ≡ accepted
  pub headers : Headers b r.headers_end r.entries

pub record FrontChecked (b : List ℕ) (n : ℕ) (r : Result HeaderCheck Refusal) : Type 0 where
  pub judged : verdict_is r ≡ front_rules b n
  pub good : (h : HeaderCheck) → r ≡ Ok h → Fronted b n h

-- what a reading of these entries counts, and the offsets and sizes that it holds
pub record SetsRead (ds : List Entry) (r : Reading) (offsets sizes : List ℕ) : Type 0 where
  pub read : ReadFrom ds r offsets
  pub extents : sizes ≡ (held_sets ds).sizes

-- the answer of rules 1 to 14; where it accepts, where the headers end and the numbers of the directory
pub record HeadersChecked (b : List ℕ) (n : ℕ) (r : Result HeaderCheck Refusal) (sets : Sets) : Type 0 where
  pub judged : verdict_is r ≡ header_rules b n
  pub headers : (h : HeaderCheck) → r ≡ Ok h → Headers b h.headers_end h.entries
  pub held : header_rules b n ≡ accepted → sets ≡ sets_of (directory b)

-- where the DSDs of a product begin, and the numbers of its directory
pub record Opens (b : List ℕ) (o : Opening) : Type 0 where
  pub begin : o.dsds ≡ dsds_at b
  pub held : o.sets ≡ sets_of (directory b)

-- the answer of rules 1 to 14; where it accepts, those
pub record Opened (b : List ℕ) (n : ℕ) (r : Result Opening Refusal) : Type 0 where
  pub judged : verdict_is r ≡ header_rules b n
  pub opens : (o : Opening) → r ≡ Ok o → Opens b o

-- the answer of all sixteen rules; where it accepts, the place where the DSDs begin, with the numbers
pub record OpenedInto (b : List ℕ) (r : Result ℕ Refusal) (sets : Sets) : Type 0 where
  pub judged : verdict_is r ≡ verdict b
  pub opens : (dsds : ℕ) → r ≡ Ok dsds → Opens b (record { dsds = dsds; sets = sets })

-- the same, both in one answer
pub record OpenedWhole (b : List ℕ) (r : Result Opening Refusal) : Type 0 where
  pub judged : verdict_is r ≡ verdict b
  pub opens : (o : Opening) → r ≡ Ok o → Opens b o
