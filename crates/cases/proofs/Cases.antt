-- Cases A to L of document 01: one table, one statement, by computation. And in the same way states, unequal records, spares and SPH lines.
-- Assumes nothing.
use Prim.Native.Nat.{ℕ}
use mathlib.Core.Bool.{false}
use mathlib.Core.List.{List, [], ◌∷◌, ◌++◌, map}
use mathlib.Core.Path.{◌≡◌, refl}
use lib.IntN.{pos, negsuc}
use lib.Ieee.{fin, of_int, of_bits, div}
use lib.ListN.{length, take, replicate}
use Rattle.layout.specs.Bytes.{bytes, part, byte_at, unsigned_at, twos_complement, signed_at}
use Rattle.layout.specs.Text.{fits, value_classes, line_classes, layout, value_width, quote_width, place_of, width_of, value_of, digits, number_of, whole}
use Rattle.layout.specs.Lines.{mph, dsd, spare_dsd}
use Rattle.layout.specs.Answer.{Answer, accepted, refused, Reply, refusal, is}
use Rattle.layout.specs.Search.{first, some, count, find, sum, laid_out}
use Rattle.layout.specs.Entries.{header_number, tot_size, sph_size, num_dsd, dsd_size, num_data_sets, headers_end, entries, dsds_at, dsd_at, dsd_bytes, entry_of, entry_from, entries_from, entry_at, directory, at, is_data, is_reference, called, non_empty, non_empty_at, start, extent, holds, shares, kind_of, is_variable, is_states, is_fixed, all_zero, in_range, set_fits, numbers_fit}
use Rattle.layout.specs.Sph.{sph_lines, ended, blanks, unquoted, quoted, value, keyword, line, line_begins}
use Rattle.layout.specs.States.{state_of, state_fits, attached, state_count, state_lengths, state_bytes, is_states_at, states_entry, state_at, state_in, states_at, states_of, first_bad, count_of_kind, total_of_kind, tally_of, of_kind}
use Rattle.layout.specs.Rules.{rule1, rule2, rule3, rule4, rule5, sph_fits, dsds_fit, rule6, rule7_at, rule7, lines_of, rule8_at, rule8, rule9_at, rule9, rule10_at, rule10, data_sets, rule11, set_inside, rule12_at, rule12, shares_at, rule13_at, rule13, holds_at, rule14_at, rule14, is_variable_at, states_fit, rule15, is_filled, rule16_at, rule16, rules1to6, rules7to14, header_rules, state_rules, verdict_from, verdict}
use Rattle.layout.specs.Records.{variable_lengths, lengths, record_at, record_length, record_part, Span, record_refusal, record_place}
use Rattle.layout.specs.Fields.{Value, integer, Position, shape_of, bytes_of, value_at, record_of, ends_in, field_refusal, field_in, field_reply, quotient, degrees, metres, in_limits, position_at, point_refusal, point_in, point_reply}
use Rattle.layout.specs.Order.{start_at, before, rank, rank_of, ranks_of}
use Rattle.layout.specs.Listing.{digits_before, decimal, signed_decimal, put_before, trimmed, line_of, entry_line, accepted_lines, listing_for, listing}
use Rattle.layout.specs.Answers.{padded, directory_of}
use Rattle.values.specs.Header.{header_of}
use Rattle.values.specs.declared.MainHeader.{MainHeader}
use Rattle.cases.proofs.Build.{Given, given, quote, plus, header, dsd_of, mph_of, product_of}

-- ---- the products

-- a set of document 01's cases: type G, name DEMO
abbrev demo : ℕ → ℕ → ℕ → ℕ → List ℕ
demo off size n rec = dsd_of 71 "DEMO" off size n (plus 10 rec)

-- B, but for the offset and how many bytes follow the headers
abbrev one_set : ℕ → ℕ → List ℕ
one_set off n = product_of [] (demo off 15 3 5 ∷ []) 1 (replicate n 7)

-- F, but for the offsets
abbrev two_sets : ℕ → ℕ → List ℕ
two_sets off1 off2 = product_of [] (demo off1 10 1 10 ∷ demo off2 10 1 10 ∷ []) 2 (replicate 20 7)

-- one set of one record, which is these bytes
abbrev one_record : List ℕ → List ℕ
one_record r = product_of [] (demo 1527 (length r) 1 (length r) ∷ []) 1 r

abbrev ones : List ℕ
ones = one_record (255 ∷ 255 ∷ 255 ∷ 255 ∷ [])

-- latitude, longitude 0, altitude 0; 90,000,000 is 055D4A80
abbrev spot : ℕ → List ℕ
spot last = one_record (5 ∷ 93 ∷ 74 ∷ last ∷ 0 ∷ 0 ∷ 0 ∷ 0 ∷ 0 ∷ 0 ∷ 0 ∷ 0 ∷ [])

-- ---- the table

-- what is asked of a product
data Question : Type 0 where
  judge : Question
  field : ℕ → ℕ → Question  -- offset, kind, in the first record
  point : ℕ → ℕ → ℕ → Question  -- three offsets, in the first record
  record' : ℕ → ℕ → Question  -- entry, record
  list : Question

data Told : Type 0 where
  verdict_is : Answer → Told
  field_is : Reply Value → Told
  point_is : Reply Position → Told
  place_is : Reply Span → Told
  listed : List ℕ → Told

answer : List ℕ → Question → Told
answer b judge = verdict_is (verdict b)
answer b (field off kind) = field_is (field_reply b 0 0 off kind)
answer b (point lat lon alt) = point_is (point_reply b 0 0 lat lon alt)
answer b (record' i j) = place_is (record_place b i j)
answer b list = listed (listing b)

record Case : Type 0 where
  product : List ℕ
  ask : Question
  want : Told

abbrev case : List ℕ → Question → Told → Case
case b a w = record { product = b; ask = a; want = w }

table : List Case
table =
    case (mph_of 1247 0 0 0) judge (verdict_is accepted)  -- A
    ∷ case (one_set 1527 15) judge (verdict_is accepted)  -- B
    ∷ case (one_set 1526 15) judge (verdict_is (refused 12 1526 0))  -- C
    ∷ case (one_set 1528 15) judge (verdict_is (refused 12 1528 0))  -- D
    ∷ case (one_set 1527 16) judge (verdict_is (refused 14 1542 128))  -- E
    ∷ case (two_sets 1807 1812) judge (verdict_is (refused 13 1812 1))  -- F
    ∷ case (two_sets 1817 1807) judge (verdict_is accepted)  -- G
    ∷ case ones (field 0 5) (field_is (is (integer (negsuc 0))))  -- H, as sl
    ∷ case ones (field 0 6) (field_is (is (integer (pos 4294967295))))  -- H, as ul
    ∷ case ones (field 0 1) (field_is (is (integer (negsuc 0))))  -- I
    ∷ case [] judge (verdict_is (refused 1 0 128))  -- J
    ∷ case (spot 128) (point 0 4 8) (point_is (is (record { latitude = fin false 45 (pos 1); longitude = fin false 0 (pos 0); altitude = fin false 0 (pos 0) })))  -- K: 45 x 2
    ∷ case (spot 129) (point 0 4 8) (point_is (refusal 21 0 0))  -- L
    ∷ []

-- cases A to L
cases_A_to_L : map (λ k. answer k.product k.ask) table ≡ map (λ k. k.want) table
unfolding table answer part byte_at unsigned_at twos_complement signed_at fits value_classes line_classes layout value_width quote_width place_of width_of value_of digits number_of whole mph dsd spare_dsd first some count find sum laid_out header_number tot_size sph_size num_dsd dsd_size num_data_sets headers_end entries dsds_at dsd_at dsd_bytes entry_of entry_from entries_from entry_at directory at is_data is_reference called non_empty non_empty_at start extent holds shares kind_of is_variable is_states is_fixed all_zero in_range set_fits numbers_fit sph_lines ended blanks unquoted quoted value keyword line line_begins state_of state_fits attached state_count state_lengths state_bytes is_states_at states_entry state_at state_in states_at states_of first_bad count_of_kind total_of_kind tally_of of_kind rule1 rule2 rule3 rule4 rule5 sph_fits dsds_fit rule6 rule7_at rule7 lines_of rule8_at rule8 rule9_at rule9 rule10_at rule10 data_sets rule11 set_inside rule12_at rule12 shares_at rule13_at rule13 holds_at rule14_at rule14 is_variable_at states_fit rule15 is_filled rule16_at rule16 rules1to6 rules7to14 header_rules state_rules verdict_from verdict variable_lengths lengths record_at record_length record_part record_refusal record_place shape_of bytes_of value_at record_of ends_in field_refusal field_in field_reply quotient degrees metres in_limits position_at point_refusal point_in point_reply of_int of_bits div digits_before decimal signed_decimal put_before trimmed line_of entry_line accepted_lines listing_for listing
cases_A_to_L = refl

-- ---- beyond A to L: states, unequal records, spares, empty sets, SPH lines, the listing with ranks

-- a state record: flag, kind, number of DSRs, DSR length
abbrev state_record : ℕ → ℕ → ℕ → ℕ → List ℕ
state_record flag kind n len = replicate 12 0 ++ flag ∷ (replicate 1103 0 ++ kind ∷ (replicate 264 0 ++ 0 ∷ n ∷ 0 ∷ 0 ∷ 0 ∷ len ∷ []))

-- two states at 1807, and behind them a set NADIR of five bytes
abbrev nadir : List ℕ → List ℕ → ℕ → List ℕ
nadir state1 state2 n =
    product_of [] (dsd_of 65 "STATES" 1807 2774 2 (plus 10 1387) ∷ dsd_of 77 "NADIR" 4581 5 n (bytes "-0000000001") ∷ []) 2
    (state1 ++ (state2 ++ 1 ∷ 2 ∷ 3 ∷ 4 ∷ 5 ∷ []))

-- a spare, an R, an empty set, a set and SPH lines, by NUM_DATA_SETS
abbrev mixed : ℕ → List ℕ
mixed sets =
    product_of (bytes "A=\"\"\n   \nB_1= x=\n")
    ((replicate 279 32 ++ 10 ∷ []) ∷ dsd_of 82 "AUX" 0 0 0 (plus 10 0) ∷ dsd_of 65 "NONE" 99 0 0 (bytes "-0000000001") ∷ demo 2384 2 1 2 ∷ [])
    sets
    (8 ∷ 9 ∷ [])

-- an M, an A and a G, all empty; DS_SIZE of the A is -0
abbrev all_empty : ℕ → List ℕ
all_empty sets =
    product_of [] (dsd_of 77 "NADIR" 0 0 0 (bytes "-0000000001") ∷ header dsd (given "DS_TYPE" (65 ∷ []) ∷ given "DS_SIZE" (bytes "-00000000000000000000") ∷ []) ∷ demo 0 0 0 5 ∷ []) sets []

-- sets out of entry order, and an empty set whose offset lies among them
abbrev empty_among : List ℕ
empty_among = product_of [] (demo 2369 1 1 1 ∷ demo 2368 0 0 5 ∷ demo 2367 2 2 1 ∷ demo 2370 3 1 3 ∷ []) 3 (replicate 6 7)

others : List Case
others =
    case (nadir (state_record 0 1 1 3) (state_record 0 1 1 2) 2) judge (verdict_is accepted)
    ∷ case (nadir (state_record 0 1 1 3) (state_record 0 1 1 2) 2) (record' 1 1) (place_is (is (record { place = 4584; length = 2 })))
    ∷ case (nadir (state_record 0 1 1 3) (state_record 0 1 1 2) 2) (record' 1 2) (place_is (refusal 18 0 1))
    ∷ case (nadir (state_record 0 1 1 5) (state_record 1 9 1 2) 1) judge (verdict_is accepted)  -- flag 1: not attached
    ∷ case (nadir (state_record 0 1 1 5) (state_record 1 1 1 2) 2) judge (verdict_is (refused 16 4581 1))
    ∷ case (nadir (state_record 0 1 1 3) (state_record 0 5 1 2) 1) judge (verdict_is (refused 15 3194 0))
    ∷ case (mixed 1) judge (verdict_is accepted)  -- sets of one byte or more are counted
    ∷ case (mixed 2) judge (verdict_is (refused 11 1194 128))  -- an empty set is not
    ∷ case (mixed 3) judge (verdict_is (refused 11 1194 128))  -- nor is R
    ∷ case (mixed 4) judge (verdict_is (refused 11 1194 128))  -- nor a spare
    ∷ case (mixed 0) judge (verdict_is (refused 11 1194 128))
    ∷ case (all_empty 0) judge (verdict_is accepted)
    ∷ case (all_empty 1) judge (verdict_is (refused 11 1194 128))  -- -0 is 0
    ∷ case (all_empty 3) judge (verdict_is (refused 11 1194 128))
    ∷ case (mixed 1) list (listed (bytes "size 2386\nentry 0 spare\nentry 1 R AUX 0 0 0 0 128\nentry 2 A NONE 99 0 0 -1 128\nentry 3 G DEMO 2384 2 1 2 0\naccepted\n"))
    ∷ case (one_set 1527 15) list (listed (bytes "size 1542\nentry 0 G DEMO 1527 15 3 5 0\naccepted\n"))  -- B
    ∷ case (two_sets 1817 1807) list (listed (bytes "size 1827\nentry 0 G DEMO 1817 10 1 10 1\nentry 1 G DEMO 1807 10 1 10 0\naccepted\n"))  -- G
    ∷ case empty_among list (listed (bytes "size 2373\nentry 0 G DEMO 2369 1 1 1 1\nentry 1 G DEMO 2368 0 0 5 128\nentry 2 G DEMO 2367 2 2 1 0\nentry 3 G DEMO 2370 3 1 3 2\naccepted\n"))
    ∷ case (one_set 1527 16) list (listed (bytes "refused 14 1542 128\n"))  -- E
    ∷ case (product_of (bytes "A=\n") [] 0 []) judge (verdict_is (refused 7 1247 128))
    ∷ case (product_of (bytes "A=1\n\n") [] 0 []) judge (verdict_is (refused 7 1251 128))
    ∷ case (product_of (bytes "A=1\nB=2") [] 0 []) judge (verdict_is (refused 7 1251 128))
    ∷ []

other_cases : map (λ k. answer k.product k.ask) others ≡ map (λ k. k.want) others
unfolding others answer start_at before rank rank_of part byte_at unsigned_at twos_complement signed_at fits value_classes line_classes layout value_width quote_width place_of width_of value_of digits number_of whole mph dsd spare_dsd first some count find sum laid_out header_number tot_size sph_size num_dsd dsd_size num_data_sets headers_end entries dsds_at dsd_at dsd_bytes entry_of entry_from entries_from entry_at directory at is_data is_reference called non_empty non_empty_at start extent holds shares kind_of is_variable is_states is_fixed all_zero in_range set_fits numbers_fit sph_lines ended blanks unquoted quoted value keyword line line_begins state_of state_fits attached state_count state_lengths state_bytes is_states_at states_entry state_at state_in states_at states_of first_bad count_of_kind total_of_kind tally_of of_kind rule1 rule2 rule3 rule4 rule5 sph_fits dsds_fit rule6 rule7_at rule7 lines_of rule8_at rule8 rule9_at rule9 rule10_at rule10 data_sets rule11 set_inside rule12_at rule12 shares_at rule13_at rule13 holds_at rule14_at rule14 is_variable_at states_fit rule15 is_filled rule16_at rule16 rules1to6 rules7to14 header_rules state_rules verdict_from verdict variable_lengths lengths record_at record_length record_part record_refusal record_place shape_of bytes_of value_at record_of ends_in field_refusal field_in field_reply quotient degrees metres in_limits position_at point_refusal point_in point_reply of_int of_bits div digits_before decimal signed_decimal put_before trimmed line_of entry_line accepted_lines listing_for listing
other_cases = refl

-- ---- the 34 header values, and a directory

-- every value of the main header, each with its own text or number
abbrev all_given : List Given
all_given =
    given "PRODUCT" (quote 62 (replicate 62 65))
    ∷ given "PROC_STAGE" (66 ∷ [])
    ∷ given "REF_DOC" (quote 23 (replicate 23 67))
    ∷ given "ACQUISITION_STATION" (quote 20 (replicate 20 68))
    ∷ given "PROC_CENTER" (quote 6 (replicate 6 69))
    ∷ given "PROC_TIME" (quote 27 (replicate 27 70))
    ∷ given "SOFTWARE_VER" (quote 14 (replicate 14 71))
    ∷ given "SENSING_START" (quote 27 (replicate 27 72))
    ∷ given "SENSING_STOP" (quote 27 (replicate 27 73))
    ∷ given "PHASE" (74 ∷ [])
    ∷ given "CYCLE" (bytes "-012")
    ∷ given "REL_ORBIT" (bytes "+00345")
    ∷ given "ABS_ORBIT" (bytes "-00000")
    ∷ given "STATE_VECTOR_TIME" (quote 27 (replicate 27 78))
    ∷ given "DELTA_UT1" (bytes "-.123456")
    ∷ given "X_POSITION" (bytes "+1234567.891")
    ∷ given "Y_POSITION" (bytes "-1234567.892")
    ∷ given "Z_POSITION" (bytes "+9999999.999")
    ∷ given "X_VELOCITY" (bytes "-1234.567893")
    ∷ given "Y_VELOCITY" (bytes "+0000.000001")
    ∷ given "Z_VELOCITY" (bytes "-0000.000002")
    ∷ given "VECTOR_SOURCE" (quote 2 (replicate 2 86))
    ∷ given "UTC_SBT_TIME" (quote 27 (replicate 27 87))
    ∷ given "SAT_BINARY_TIME" (bytes "+4294967295")
    ∷ given "CLOCK_STEP" (bytes "-9999999999")
    ∷ given "LEAP_UTC" (quote 27 (replicate 27 90))
    ∷ given "LEAP_SIGN" (bytes "-001")
    ∷ given "LEAP_ERR" (49 ∷ [])
    ∷ given "PRODUCT_ERR" (48 ∷ [])
    ∷ given "TOT_SIZE" (bytes "+09223372036854775807")
    ∷ given "SPH_SIZE" (bytes "+0000000011")
    ∷ given "NUM_DSD" (bytes "-0000000012")
    ∷ given "DSD_SIZE" (bytes "+0000000013")
    ∷ given "NUM_DATA_SETS" (bytes "-0000000014")
    ∷ []

all_values : MainHeader
all_values =
    record {
      identity = record { «product» = replicate 62 65; proc_stage = 66; ref_doc = replicate 23 67; acquisition_station = replicate 20 68; proc_center = replicate 6 69; proc_time = replicate 27 70; software_ver = replicate 14 71 };
      sensing = record { sensing_start = replicate 27 72; sensing_stop = replicate 27 73; «phase» = 74; «cycle» = negsuc 11; rel_orbit = pos 345; abs_orbit = pos 0 };
      orbit = record { state_vector_time = replicate 27 78; delta_ut1 = negsuc 123455; x_position = pos 1234567891; y_position = negsuc 1234567891; z_position = pos 9999999999; x_velocity = negsuc 1234567892; y_velocity = pos 1; z_velocity = negsuc 1; vector_source = replicate 2 86 };
      clock = record { utc_sbt_time = replicate 27 87; sat_binary_time = pos 4294967295; clock_step = negsuc 9999999998; leap_utc = replicate 27 90; leap_sign = negsuc 0; leap_err = 49 };
      sizes = record { product_err = 48; tot_size = pos 9223372036854775807; sph_size = pos 11; num_dsd = negsuc 11; dsd_size = pos 13; num_data_sets = negsuc 13 };
    }

header_values : header_of (header mph all_given) ≡ all_values
unfolding all_values header_of header_number mph part byte_at line_classes value_classes value_width quote_width place_of width_of value_of digits number_of whole
header_values = refl

-- of the product with a spare, an R, an empty set and a set
abbrev mixed_offsets : List ℕ
mixed_offsets = 0 ∷ 0 ∷ 99 ∷ 2384 ∷ replicate 124 0

mixed_directory :
    ((directory_of (directory (mixed 1))).types ≡ 32 ∷ 82 ∷ 65 ∷ 71 ∷ replicate 124 0)
    × (((directory_of (directory (mixed 1))).offsets ≡ mixed_offsets)
    × (((directory_of (directory (mixed 1))).record_sizes ≡ pos 0 ∷ pos 0 ∷ negsuc 0 ∷ pos 2 ∷ replicate 124 (pos 0))
    × (((directory_of (directory (mixed 1))).ranks ≡ 128 ∷ 128 ∷ 128 ∷ 0 ∷ replicate 124 0)
    × (take 58 (directory_of (directory (mixed 1))).names ≡ replicate 28 32 ++ (bytes "AUX" ++ (replicate 25 32 ++ bytes "NO"))))))
unfolding directory_of padded start_at before rank rank_of ranks_of part byte_at unsigned_at twos_complement signed_at fits value_classes line_classes layout value_width quote_width place_of width_of value_of digits number_of whole mph dsd spare_dsd first some count find sum laid_out header_number tot_size sph_size num_dsd dsd_size num_data_sets headers_end entries dsds_at dsd_at dsd_bytes entry_of entry_from entries_from entry_at directory at is_data is_reference called non_empty non_empty_at start extent holds shares kind_of is_variable is_states is_fixed all_zero in_range set_fits numbers_fit sph_lines ended blanks unquoted quoted value keyword line line_begins state_of state_fits attached state_count state_lengths state_bytes is_states_at states_entry state_at state_in states_at states_of first_bad count_of_kind total_of_kind tally_of of_kind rule1 rule2 rule3 rule4 rule5 sph_fits dsds_fit rule6 rule7_at rule7 lines_of rule8_at rule8 rule9_at rule9 rule10_at rule10 data_sets rule11 set_inside rule12_at rule12 shares_at rule13_at rule13 holds_at rule14_at rule14 is_variable_at states_fit rule15 is_filled rule16_at rule16 rules1to6 rules7to14 header_rules state_rules verdict_from verdict variable_lengths lengths record_at record_length record_part record_refusal record_place shape_of bytes_of value_at record_of ends_in field_refusal field_in field_reply quotient degrees metres in_limits position_at point_refusal point_in point_reply of_int of_bits div digits_before decimal signed_decimal put_before trimmed line_of entry_line accepted_lines
mixed_directory = (refl, (refl, (refl, (refl, refl))))
