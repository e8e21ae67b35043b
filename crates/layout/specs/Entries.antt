-- The numbers of the main header that the rules go by, and the directory: what each DSD answers, and what is asked of an entry's values.
-- The tests are over values and not over bytes.
-- Assumes nothing.
use Rattle.std.specs.Prelude.{ℕ, ◌+◌, ◌*◌, ◌-◌, Bool, true, false, cond, ◌&&◌, ◌||◌, List, [], ◌∷◌, map, leb, ltb, eqb, ℤ, pos, negsuc, get_or, replicate}
use Prim.Native.String.{String}
use Rattle.std.specs.Int.Signed.{le_z, lt_z}
use Rattle.layout.specs.Bytes.{bytes, part, byte_at, member}
use Rattle.layout.specs.Text.{Number, whole, number_of, value_of}
use Rattle.layout.specs.Lines.{mph, dsd}
use Rattle.layout.specs.Answer.{◌⇒◌}
use Rattle.layout.specs.Search.{upto}

abbrev pub eq_z : ℤ → ℤ → Bool
eq_z (pos a) (pos b) = eqb a b
eq_z (pos a) (negsuc b) = false
eq_z (negsuc a) (pos b) = false
eq_z (negsuc a) (negsuc b) = eqb a b

-- lo to hi
abbrev pub within_z : ℤ → ℤ → ℤ → Bool
within_z lo hi z = le_z lo z && le_z z hi

-- ---- the main header's numbers

unfoldable pub header_number : List ℕ → String → Number
header_number b key = number_of (value_of mph b key)

unfoldable pub tot_size : List ℕ → Number
tot_size b = header_number b "TOT_SIZE"

unfoldable pub sph_size : List ℕ → Number
sph_size b = header_number b "SPH_SIZE"

unfoldable pub num_dsd : List ℕ → Number
num_dsd b = header_number b "NUM_DSD"

unfoldable pub dsd_size : List ℕ → Number
dsd_size b = header_number b "DSD_SIZE"

unfoldable pub num_data_sets : List ℕ → Number
num_data_sets b = header_number b "NUM_DATA_SETS"

-- where the headers end
unfoldable pub headers_end : List ℕ → ℕ
headers_end b = 1247 + (sph_size b).magnitude

-- ---- the directory

unfoldable pub entries : List ℕ → ℕ
entries b = (num_dsd b).magnitude

-- where the DSDs begin: they are the last 280 x NUM_DSD bytes of the SPH; and where DSD i does
unfoldable pub dsds_at : List ℕ → ℕ
dsds_at b = headers_end b - 280 * entries b

unfoldable pub dsd_at : List ℕ → ℕ → ℕ
dsd_at b i = dsds_at b + 280 * i

unfoldable pub dsd_bytes : List ℕ → ℕ → List ℕ
dsd_bytes b i = part b (dsd_at b i) 280

-- what a DSD answers. Of a spare, whose bytes are all blank, too: type 32, blank texts and zeros
pub record Entry : Type 0 where
  pub type : ℕ
  pub name : List ℕ
  pub filename : List ℕ
  pub offset : Number
  pub size : Number
  pub count : Number
  pub record_size : Number

-- the values of the 280 bytes of a DSD
unfoldable pub entry_of : List ℕ → Entry
entry_of d =
    record {
      type = byte_at (value_of dsd d "DS_TYPE") 0;
      name = value_of dsd d "DS_NAME";
      filename = value_of dsd d "FILENAME";
      offset = number_of (value_of dsd d "DS_OFFSET");
      size = number_of (value_of dsd d "DS_SIZE");
      count = number_of (value_of dsd d "NUM_DSR");
      record_size = number_of (value_of dsd d "DSR_SIZE");
    }

-- the entries of DSDs that follow each other from a place on: number i, and the first n
unfoldable pub entry_from : List ℕ → ℕ → ℕ → Entry
entry_from b from i = entry_of (part b (from + 280 * i) 280)

unfoldable pub entries_from : List ℕ → ℕ → ℕ → List Entry
entries_from b from n = map (entry_from b from) (upto 0 n)

-- those of a product
unfoldable pub entry_at : List ℕ → ℕ → Entry
entry_at b i = entry_from b (dsds_at b) i

unfoldable pub directory : List ℕ → List Entry
directory b = entries_from b (dsds_at b) (entries b)

-- entry i of a directory
unfoldable pub at : List Entry → ℕ → Entry
at ds i = get_or ds i (entry_of (replicate 280 32))

-- ---- an entry's values

-- types M 77, A 65, G 71, R 82
unfoldable pub is_data : Entry → Bool
is_data e = member e.type (bytes "MAG")

unfoldable pub is_reference : Entry → Bool
is_reference e = eqb e.type 82

-- the name is this text, padded with blanks
unfoldable pub called : List ℕ → List ℕ → Bool
called [] [] = true
called [] (y ∷ ys) = false
called (x ∷ xs) [] = eqb x 32 && called xs []
called (x ∷ xs) (y ∷ ys) = eqb x y && called xs ys

-- a set of one byte or more
unfoldable pub non_empty : Entry → Bool
non_empty e = is_data e && lt_z (pos 0) (whole e.size)

-- the same of entry i
unfoldable pub non_empty_at : List Entry → ℕ → Bool
non_empty_at ds i = non_empty (at ds i)

-- where a set starts, and its bytes
unfoldable pub start : Entry → ℕ
start e = e.offset.magnitude

unfoldable pub extent : Entry → ℕ
extent e = e.size.magnitude

-- the set of an entry holds the byte p
unfoldable pub holds : ℕ → Entry → Bool
holds p e = non_empty e && (leb (start e) p && ltb p (start e + extent e))

-- two sets share a byte
unfoldable pub shares : Entry → Entry → Bool
shares e f = non_empty e && (non_empty f && (ltb (start e) (start f + extent f) && ltb (start f) (start e + extent e)))

-- ---- variable sets

-- the kind of state whose records a set of this name holds, or 0: 1 nadir, 2 limb, 3 occultation, 4 monitoring
unfoldable pub kind_of : Entry → ℕ
kind_of e =
    cond (called e.name (bytes "NADIR")) 1
    (cond (called e.name (bytes "LIMB")) 2
    (cond (called e.name (bytes "OCCULTATION")) 3
    (cond (called e.name (bytes "MONITORING")) 4 0)))

-- DS_SIZE above 0, DSR_SIZE -1, type M, and one of the four names
unfoldable pub is_variable : Entry → Bool
is_variable e = lt_z (pos 0) (whole e.size) && (eq_z (whole e.record_size) (negsuc 0) && (eqb e.type 77 && ltb 0 (kind_of e)))

-- the entry that describes the states: of type A, named STATES
unfoldable pub is_states : Entry → Bool
is_states e = eqb e.type 65 && called e.name (bytes "STATES")

-- ---- rules 9 and 10: the numbers of one DSD

abbrev pub largest_signed : ℕ  -- 2^63 - 1
largest_signed = 9223372036854775807

abbrev pub is_zero : Number → Bool
is_zero n = eq_z (whole n) (pos 0)

abbrev pub at_least : ℤ → Number → Bool
at_least lo n = le_z lo (whole n)

-- DSR_SIZE at least 1 and NUM_DSR x DSR_SIZE = DS_SIZE
unfoldable pub is_fixed : Entry → Bool
is_fixed e = at_least (pos 1) e.record_size && eqb (e.count.magnitude * e.record_size.magnitude) e.size.magnitude

-- R: all four numbers zero
unfoldable pub all_zero : Entry → Bool
all_zero e = is_zero e.offset && (is_zero e.size && (is_zero e.count && is_zero e.record_size))

-- DS_OFFSET, DS_SIZE, NUM_DSR not negative and DSR_SIZE at least -1
unfoldable pub in_range : Entry → Bool
in_range e = at_least (pos 0) e.offset && (at_least (pos 0) e.size && (at_least (pos 0) e.count && at_least (negsuc 0) e.record_size))

-- DS_SIZE 0 needs NUM_DSR 0; above 0 it needs NUM_DSR at least 1, and equal records that fill it or a variable set
unfoldable pub set_fits : Entry → Bool
set_fits e =
    (is_zero e.size ⇒ is_zero e.count)
    && (lt_z (pos 0) (whole e.size) ⇒ (at_least (pos 1) e.count && (is_fixed e || is_variable e)))

-- spare: nothing
unfoldable pub numbers_fit : Entry → Bool
numbers_fit e = (is_reference e ⇒ all_zero e) && (is_data e ⇒ (in_range e && set_fits e))
