-- Layout rules 1 to 16 of document 01, amended by document 02, each under its number, over the bytes at hand `b` and the length `n`; and the verdict:
-- the first refusal. Rules 1 to 14 look at no byte behind the headers, rules 15 and 16 at a tally of the states.
-- Assumes nothing.
use Rattle.std.specs.Prelude.{ℕ, ◌+◌, ◌*◌, ◌-◌, Bool, cond, ◌&&◌, not, List, leb, eqb, pos, length, drop}
use Rattle.layout.specs.Bytes.{byte_at}
use Rattle.layout.specs.Text.{Line, whole, layout}
use Rattle.layout.specs.Lines.{mph, dsd, spare_dsd}
use Rattle.layout.specs.Answer.{Answer, none, need, where', ◌⇒◌, ◌or_else◌}
use Rattle.layout.specs.Search.{first, some, count, laid_out}
use Rattle.layout.specs.Entries.{Entry, within_z, eq_z, largest_signed, tot_size, sph_size, num_dsd, dsd_size, num_data_sets, headers_end, entries, dsd_at, dsd_bytes, entry_at, directory, at, non_empty, non_empty_at, start, extent, holds, shares, kind_of, is_variable, numbers_fit}
use Rattle.layout.specs.Sph.{sph_lines, line, line_begins}
use Rattle.layout.specs.States.{Tally, is_states_at, states_entry, state_at, states_of, tally_of, of_kind}

-- 1: under 1,247 bytes
unfoldable pub rule1 : List ℕ → ℕ → Answer
rule1 b n = need (leb 1247 n) 1 n none

-- 2: over 2,147,483,647 bytes
unfoldable pub rule2 : List ℕ → ℕ → Answer
rule2 b n = need (leb n 2147483647) 2 0 none

-- 3: an MPH byte is not as laid out
unfoldable pub rule3 : List ℕ → ℕ → Answer
rule3 b n = laid_out 3 none 0 (layout mph) b

-- 4: TOT_SIZE magnitude over 2^63 - 1
unfoldable pub rule4 : List ℕ → ℕ → Answer
rule4 b n = need (leb (tot_size b).magnitude largest_signed) 4 1075 none

-- 5: TOT_SIZE is not the length
unfoldable pub rule5 : List ℕ → ℕ → Answer
rule5 b n = need (eq_z (whole (tot_size b)) (pos n)) 5 1075 none

-- 6: SPH_SIZE not 0 to 49,152, or the headers pass the end; NUM_DSD not 0 to 128, or its DSDs exceed the SPH; DSD_SIZE not 280
unfoldable pub sph_fits : List ℕ → ℕ → Bool
sph_fits b n = within_z (pos 0) (pos 49152) (whole (sph_size b)) && leb (headers_end b) n

unfoldable pub dsds_fit : List ℕ → Bool
dsds_fit b = within_z (pos 0) (pos 128) (whole (num_dsd b)) && leb (280 * entries b) (sph_size b).magnitude

unfoldable pub rule6 : List ℕ → ℕ → Answer
rule6 b n =
    need (sph_fits b n) 6 1113 none
    or_else need (dsds_fit b) 6 1140 none
    or_else need (eq_z (whole (dsd_size b)) (pos 280)) 6 1161 none

-- 7: a bad or unended SPH line
unfoldable pub rule7_at : List ℕ → ℕ → Answer
rule7_at l i = need (line_begins l i ⇒ line (drop i l)) 7 (1247 + i) none

unfoldable pub rule7 : List ℕ → ℕ → Answer
rule7 b n = first (rule7_at (sph_lines b)) 0 (length (sph_lines b))

-- 8: a DSD byte is not as laid out. A DSD whose first byte is a blank is a spare
unfoldable pub lines_of : List ℕ → List Line
lines_of d = cond (eqb (byte_at d 0) 32) spare_dsd dsd

unfoldable pub rule8_at : List ℕ → ℕ → Answer
rule8_at b i = laid_out 8 i (dsd_at b i) (layout (lines_of (dsd_bytes b i))) (dsd_bytes b i)

unfoldable pub rule8 : List ℕ → ℕ → Answer
rule8 b n = first (rule8_at b) 0 (entries b)

-- 9: DS_OFFSET or DS_SIZE magnitude over 2^63 - 1; the place is its sign
unfoldable pub rule9_at : List ℕ → ℕ → Answer
rule9_at b i =
    need (leb (entry_at b i).offset.magnitude largest_signed) 9 (dsd_at b i + 133) i
    or_else need (leb (entry_at b i).size.magnitude largest_signed) 9 (dsd_at b i + 170) i

unfoldable pub rule9 : List ℕ → ℕ → Answer
rule9 b n = first (rule9_at b) 0 (entries b)

-- 10: DSD numbers break the rules
unfoldable pub rule10_at : List ℕ → ℕ → Answer
rule10_at b i = need (numbers_fit (entry_at b i)) 10 (dsd_at b i) i

unfoldable pub rule10 : List ℕ → ℕ → Answer
rule10 b n = first (rule10_at b) 0 (entries b)

-- 11: NUM_DATA_SETS is not the number of entries of type M, A or G whose DS_SIZE is above 0 (document 02, order 4)
unfoldable pub data_sets : List Entry → ℕ
data_sets ds = count (non_empty_at ds) 0 (length ds)

unfoldable pub rule11 : List ℕ → ℕ → Answer
rule11 b n = need (eq_z (whole (num_data_sets b)) (pos (data_sets (directory b)))) 11 1194 none

-- 12: a non-empty set starts inside the headers or ends past the product. `h` is where the headers end
unfoldable pub set_inside : ℕ → ℕ → Entry → Bool
set_inside h n e = non_empty e ⇒ (leb h (start e) && leb (start e + extent e) n)

unfoldable pub rule12_at : List Entry → ℕ → ℕ → ℕ → Answer
rule12_at ds h n i = need (set_inside h n (at ds i)) 12 (start (at ds i)) i

unfoldable pub rule12 : List ℕ → ℕ → Answer
rule12 b n = first (rule12_at (directory b) (headers_end b) n) 0 (length (directory b))

-- 13: a non-empty set shares a byte with one of a lower entry
unfoldable pub shares_at : List Entry → ℕ → ℕ → Bool
shares_at ds i j = shares (at ds i) (at ds j)

unfoldable pub rule13_at : List Entry → ℕ → Answer
rule13_at ds i = need (not (some (shares_at ds i) 0 i)) 13 (start (at ds i)) i

unfoldable pub rule13 : List ℕ → ℕ → Answer
rule13 b n = first (rule13_at (directory b)) 0 (length (directory b))

-- 14: a byte after the headers is in no set
unfoldable pub holds_at : List Entry → ℕ → ℕ → Bool
holds_at ds p i = holds p (at ds i)

unfoldable pub rule14_at : List Entry → ℕ → Answer
rule14_at ds p = need (some (holds_at ds p) 0 (length ds)) 14 p none

unfoldable pub rule14 : List ℕ → ℕ → Answer
rule14 b n = first (rule14_at (directory b)) (headers_end b) (n - headers_end b)

-- 15: states missing or bad. Exactly one entry of type A is named STATES; if not empty, its DSR_SIZE is 1,387, and each record fits
unfoldable pub is_variable_at : List Entry → ℕ → Bool
is_variable_at ds i = is_variable (at ds i)

unfoldable pub states_fit : List Entry → Tally → ℕ → Answer
states_fit ds t i =
    where' (non_empty (at ds i))
    (need (eq_z (whole (at ds i).record_size) (pos 1387)) 15 (start (at ds i)) i
    or_else need (leb (at ds i).count.magnitude t.bad) 15 (state_at (at ds i) t.bad) i)

unfoldable pub rule15 : List Entry → Tally → Answer
rule15 ds t =
    where' (some (is_variable_at ds) 0 (length ds))
    (need (eqb (count (is_states_at ds) 0 (length ds)) 1) 15 0 none
    or_else states_fit ds t (states_entry ds))

-- 16: a variable set not exactly filled: the number of its records is NUM_DSR and their total DS_SIZE
unfoldable pub is_filled : Tally → Entry → Bool
is_filled t e = eqb (of_kind t.counts (kind_of e)) e.count.magnitude && eqb (of_kind t.totals (kind_of e)) (extent e)

unfoldable pub rule16_at : List Entry → Tally → ℕ → Answer
rule16_at ds t i = where' (is_variable (at ds i)) (need (is_filled t (at ds i)) 16 (start (at ds i)) i)

unfoldable pub rule16 : List Entry → Tally → Answer
rule16 ds t = first (rule16_at ds t) 0 (length ds)

-- ---- the verdict

-- of the main header
unfoldable pub rules1to6 : List ℕ → ℕ → Answer
rules1to6 b n = rule1 b n or_else rule2 b n or_else rule3 b n or_else rule4 b n or_else rule5 b n or_else rule6 b n

-- of the SPH and the directory
unfoldable pub rules7to14 : List ℕ → ℕ → Answer
rules7to14 b n = rule7 b n or_else rule8 b n or_else rule9 b n or_else rule10 b n or_else rule11 b n or_else rule12 b n or_else rule13 b n or_else rule14 b n

unfoldable pub header_rules : List ℕ → ℕ → Answer
header_rules b n = let directory = rules7to14 b n in rules1to6 b n or_else directory

unfoldable pub state_rules : List Entry → Tally → Answer
state_rules ds t = rule15 ds t or_else rule16 ds t

-- on a product of n bytes whose headers are at hand, by the tally of its states
unfoldable pub verdict_from : List ℕ → ℕ → Tally → Answer
verdict_from b n t = let states = state_rules (directory b) t in header_rules b n or_else states

-- on a product lent whole
unfoldable pub verdict : List ℕ → Answer
verdict b = verdict_from b (length b) (tally_of (states_of b (directory b)))
