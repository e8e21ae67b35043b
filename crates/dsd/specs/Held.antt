-- An entry as the code holds it: its type, its four numbers and the role of its name, against layout's entry. Layout's tests are asked of the view
-- that a held entry gives.
-- Assumes nothing.
use Rattle.std.specs.Prelude.{ℕ, ◌<◌, Bool, true, false, cond, List, [], ◌∷◌, ◌++◌, ◌≡◌, leb, eqb, replicate}
use Rattle.layout.specs.Bytes.{bytes, part, byte_at}
use Rattle.layout.specs.Text.{Number}
use Rattle.layout.specs.Entries.{Entry, entry_of, called, is_variable, is_states, largest_signed}
use Rattle.text.specs.Numbers.{capped}
use Rattle.text.specs.declared.Number.{Number as HeldNumber}
use Rattle.dsd.specs.declared.Entry.{Entry as HeldEntry}
use Rattle.dsd.specs.declared.Kind.{Kind}
use Rattle.dsd.specs.declared.Kind.TheVariants.{Nadir, Limb, Occultation, Monitoring}
use Rattle.dsd.specs.declared.Role.{Role}
use Rattle.dsd.specs.declared.Role.TheVariants.{Other, Variable, States, Unknown}

-- ---- the numbers of kinds and roles

-- a kind's number in the name table, which a state record gives too
unfoldable pub kind_number : Kind → ℕ
kind_number Nadir = 1
kind_number Limb = 2
kind_number Occultation = 3
kind_number Monitoring = 4

-- a variable set's kind; 5 for the states; else 0
unfoldable pub role_number : Role → ℕ
role_number Other = 0
role_number (Variable kind) = kind_number kind
role_number States = 5
role_number (Unknown n) = 0

-- the role that a number stands for: of 0 to 5 the one whose number it is
unfoldable pub role_numbered : ℕ → Role
role_numbered n =
    cond (eqb n 0) Other
    (cond (eqb n 1) (Variable Nadir)
    (cond (eqb n 2) (Variable Limb)
    (cond (eqb n 3) (Variable Occultation)
    (cond (eqb n 4) (Variable Monitoring)
    (cond (eqb n 5) States (Unknown n))))))

-- ---- roles

-- a variable set; what of_states the states
unfoldable pub of_variable : Role → Bool
of_variable (Variable kind) = true
of_variable States = false
of_variable Other = false
of_variable (Unknown n) = false

unfoldable pub of_states : Role → Bool
of_states (Variable kind) = false
of_states States = true
of_states Other = false
of_states (Unknown n) = false

-- what a set of this name may be: of the kinds 1 to 4, or the states
unfoldable pub name_role : List ℕ → Role
name_role name =
    cond (called name (bytes "NADIR")) (Variable Nadir)
    (cond (called name (bytes "LIMB")) (Variable Limb)
    (cond (called name (bytes "OCCULTATION")) (Variable Occultation)
    (cond (called name (bytes "MONITORING")) (Variable Monitoring)
    (cond (called name (bytes "STATES")) States Other))))

-- a variable set of the kind that its name tells; the states; or neither
unfoldable pub role_of : Entry → Role
role_of e = cond (is_variable e) (name_role e.name) (cond (is_states e) States Other)

-- where in the DSD the number stands that passes 2^63 - 1, DS_OFFSET before DS_SIZE; or 0
unfoldable pub over_place : Entry → ℕ
over_place e = cond (leb e.offset.magnitude largest_signed) (cond (leb e.size.magnitude largest_signed) 0 170) 133

-- ---- what is held of an entry: the numbers that rule 9 looks at are held at 2^63

unfoldable pub held_of : Entry → HeldEntry
held_of e =
    record {
      ds_type = e.type;
      offset = record { minus = e.offset.minus; magnitude = capped e.offset.magnitude };
      size = record { minus = e.size.minus; magnitude = capped e.size.magnitude };
      count = record { minus = e.count.minus; magnitude = e.count.magnitude };
      record_size = record { minus = e.record_size.minus; magnitude = e.record_size.magnitude };
      name_role = name_role e.name;
    }

-- a spare DSD: 279 blanks and byte 10
unfoldable pub spare_bytes : List ℕ
spare_bytes = replicate 279 32 ++ 10 ∷ []

-- the DSD from a place on is a spare where its first byte is a blank, as rule 8 asks
abbrev pub SpareByFirst : List ℕ → ℕ → Type 0
SpareByFirst b start = byte_at b start ≡ 32 → part b start 280 ≡ spare_bytes

-- r is what is held of the DSD's entry, and its DSR_SIZE has a value of 64 bits
pub record Read (b : List ℕ) (start : ℕ) (r : HeldEntry) : Type 0 where
  pub is : r ≡ held_of (entry_of (part b start 280))
  pub small : r.record_size.magnitude < 9223372036854775808

-- ---- an entry that what is held is held of: a name of that role, no FILENAME

unfoldable pub name_text : Role → List ℕ
name_text (Variable Nadir) = bytes "NADIR"
name_text (Variable Limb) = bytes "LIMB"
name_text (Variable Occultation) = bytes "OCCULTATION"
name_text (Variable Monitoring) = bytes "MONITORING"
name_text States = bytes "STATES"
name_text Other = []
name_text (Unknown n) = []

unfoldable pub number_from : HeldNumber → Number
number_from n = record { minus = n.minus; magnitude = n.magnitude }

unfoldable pub view_of : HeldEntry → Entry
view_of h =
    record {
      type = h.ds_type;
      name = name_text h.name_role;
      filename = [];
      offset = number_from h.offset;
      size = number_from h.size;
      count = number_from h.count;
      record_size = number_from h.record_size;
    }
