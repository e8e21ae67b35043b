-- Document 01's table of refusals 1 to 16, amended by document 02, as statements that a person reads: what is a fault of each rule, and at which place
-- and entry. No test and no search stands here. That the rules of `Rules` judge exactly these faults is a theorem (proofs/Exactly).
-- Assumes nothing.
use Rattle.std.specs.Prelude.{ℕ, suc, ◌+◌, ◌*◌, ◌≤◌, ◌<◌, List, [], ◌∷◌, ◌++◌, ◌⊎◌, ◌≡◌, pos, negsuc, length, get_or, replicate, ◌≤ℤ◌, ◌<ℤ◌}
use Prim.Native.String.{String}
use Rattle.layout.specs.Bytes.{bytes, byte_at}
use Rattle.layout.specs.Text.{Class, exactly, plain, sign, digit, among, layout, whole}
use Rattle.layout.specs.Lines.{mph, dsd, spare_dsd}
use Rattle.layout.specs.Answer.{none}
use Rattle.layout.specs.Search.{All, Some, sum}
use Rattle.layout.specs.Entries.{Entry, largest_signed, tot_size, sph_size, num_dsd, dsd_size, num_data_sets, headers_end, entries, dsd_at, dsd_bytes, entry_at, directory, at, start, extent}
use Rattle.layout.specs.Sph.{sph_lines}
use Rattle.layout.specs.States.{State, state_at, state_in, states_at}

-- ---- where a fault is

-- this place and this entry
abbrev pub At : ℕ → ℕ → ℕ → ℕ → Type 0
At p e q d = (p ≡ q) × (e ≡ d)

-- the first of two faults counts: a lower entry, or the same entry and no higher place
abbrev pub Upto : ℕ → ℕ → ℕ → ℕ → Type 0
Upto p e q d = (e < d) ⊎ ((e ≡ d) × (p ≤ q))

-- a fault at place p and entry e, and none at a lower entry or place
abbrev pub Lowest : (ℕ → ℕ → Type 0) → ℕ → ℕ → Type 0
Lowest F p e = F p e × ((q d : ℕ) → F q d → Upto p e q d)

-- ---- header text

-- a byte of q or c: 32 to 126, never 34
abbrev pub PlainByte : ℕ → Type 0
PlainByte x = ((32 ≤ x) × (x ≤ 126)) × (x ≡ 34 → ⊥)

abbrev pub DigitByte : ℕ → Type 0
DigitByte x = (48 ≤ x) × (x ≤ 57)

-- what a byte may be
abbrev pub Fits : Class → ℕ → Type 0
Fits (exactly y) x = x ≡ y
Fits plain x = PlainByte x
Fits sign x = (x ≡ 43) ⊎ (x ≡ 45)
Fits digit x = DigitByte x
Fits (among ys) x = Some (λ y. x ≡ y) ys

-- byte i is there and as laid out
abbrev pub LaidOut : List Class → List ℕ → ℕ → Type 0
LaidOut ks b i = (i < length b) × Fits (get_or ks i plain) (get_or b i 0)

-- the same of a DSD; one whose first byte is a blank is a spare
abbrev pub DsdLaidOut : List ℕ → ℕ → Type 0
DsdLaidOut d i = (byte_at d 0 ≡ 32 → LaidOut (layout spare_dsd) d i) × ((byte_at d 0 ≡ 32 → ⊥) → LaidOut (layout dsd) d i)

-- ---- SPH lines

abbrev pub Letter : ℕ → Type 0
Letter x = (65 ≤ x) × (x ≤ 90)

-- A to Z, 0 to 9, _
abbrev pub KeywordByte : ℕ → Type 0
KeywordByte x = Letter x ⊎ (DigitByte x ⊎ (x ≡ 95))

-- A to Z, then A to Z, 0 to 9, _
abbrev pub Keyword : List ℕ → Type 0
Keyword k = (x : ℕ) × ((xs : List ℕ) × ((k ≡ x ∷ xs) × (Letter x × All KeywordByte xs)))

-- a q of any length
abbrev pub Quoted : List ℕ → Type 0
Quoted v = (xs : List ℕ) × ((v ≡ 34 ∷ (xs ++ 34 ∷ [])) × All PlainByte xs)

-- one or more bytes 32 to 126 without 34
abbrev pub Unquoted : List ℕ → Type 0
Unquoted v = (x : ℕ) × ((xs : List ℕ) × ((v ≡ x ∷ xs) × (PlainByte x × All PlainByte xs)))

-- one or more blanks, or a keyword, = and a value; and byte 10
abbrev pub SphLine : List ℕ → Type 0
SphLine l =
    ((n : ℕ) × (l ≡ replicate (suc n) 32 ++ 10 ∷ []))
    ⊎ ((k : List ℕ) × ((v : List ℕ) × ((l ≡ k ++ 61 ∷ (v ++ 10 ∷ [])) × (Keyword k × (Quoted v ⊎ Unquoted v)))))

-- a line begins behind these bytes: there are none, or they end in byte 10
abbrev pub LineBegins : List ℕ → Type 0
LineBegins l = (l ≡ []) ⊎ ((xs : List ℕ) × (l ≡ xs ++ 10 ∷ []))

-- ---- entries

-- type M, A or G
abbrev pub IsData : Entry → Type 0
IsData f = (f.type ≡ 77) ⊎ ((f.type ≡ 65) ⊎ (f.type ≡ 71))

-- the name is this text, and then blanks
abbrev pub Called : List ℕ → String → Type 0
Called name text = (n : ℕ) × (name ≡ bytes text ++ replicate n 32)

-- a set of one byte or more
abbrev pub NonEmpty : Entry → Type 0
NonEmpty f = IsData f × (pos 0 <ℤ whole f.size)

-- it holds the byte p
abbrev pub Byte : Entry → ℕ → Type 0
Byte f p = NonEmpty f × ((start f ≤ p) × (p < start f + extent f))

-- the kind of state whose records a set of this name holds
abbrev pub OfKind : Entry → ℕ → Type 0
OfKind f k =
    (Called f.name "NADIR" × (k ≡ 1))
    ⊎ ((Called f.name "LIMB" × (k ≡ 2))
    ⊎ ((Called f.name "OCCULTATION" × (k ≡ 3))
    ⊎ (Called f.name "MONITORING" × (k ≡ 4))))

-- DS_SIZE above 0, DSR_SIZE -1, type M, and one of the four names
abbrev pub Variable : Entry → Type 0
Variable f = (pos 0 <ℤ whole f.size) × ((whole f.record_size ≡ negsuc 0) × ((f.type ≡ 77) × ((k : ℕ) × OfKind f k)))

-- DSR_SIZE at least 1 and NUM_DSR x DSR_SIZE = DS_SIZE
abbrev pub Fixed : Entry → Type 0
Fixed f = (pos 1 ≤ℤ whole f.record_size) × (f.count.magnitude * f.record_size.magnitude ≡ f.size.magnitude)

-- all four numbers zero
abbrev pub Zero : Entry → Type 0
Zero f = (whole f.offset ≡ pos 0) × ((whole f.size ≡ pos 0) × ((whole f.count ≡ pos 0) × (whole f.record_size ≡ pos 0)))

-- DS_OFFSET, DS_SIZE, NUM_DSR not negative and DSR_SIZE at least -1
abbrev pub InRange : Entry → Type 0
InRange f = (pos 0 ≤ℤ whole f.offset) × ((pos 0 ≤ℤ whole f.size) × ((pos 0 ≤ℤ whole f.count) × (negsuc 0 ≤ℤ whole f.record_size)))

-- rule 10: R and sets; of a spare nothing is asked
abbrev pub NumbersFit : Entry → Type 0
NumbersFit f =
    (f.type ≡ 82 → Zero f)
    × (IsData f →
    InRange f
    × ((whole f.size ≡ pos 0 → whole f.count ≡ pos 0)
    × (pos 0 <ℤ whole f.size → (pos 1 ≤ℤ whole f.count) × (Fixed f ⊎ Variable f))))

-- n of these entries are so
abbrev pub HowMany : (Entry → Type 0) → List Entry → ℕ → Type 0
HowMany P [] n = n ≡ 0
HowMany P (f ∷ ds) n = (P f × ((m : ℕ) × ((n ≡ suc m) × HowMany P ds m))) ⊎ ((P f → ⊥) × HowMany P ds n)

-- ---- states

-- type A, named STATES
abbrev pub IsStates : Entry → Type 0
IsStates f = (f.type ≡ 65) × Called f.name "STATES"

-- exactly one entry is so: entry i
abbrev pub OnlyStates : List Entry → ℕ → Type 0
OnlyStates ds i = (i < length ds) × (IsStates (at ds i) × ((j : ℕ) → j < length ds → IsStates (at ds j) → j ≡ i))

-- flag 0 or 1 and, at flag 0 only, both kind 1 to 4 and length at least 1 if its count is at least 1
abbrev pub StateFits : State → Type 0
StateFits s = (s.flag ≡ 1) ⊎ ((s.flag ≡ 0) × (((1 ≤ s.kind) × (s.kind ≤ 4)) × (1 ≤ s.count → 1 ≤ s.record_length)))

-- the state has flag 0 and this kind
abbrev pub Attached : ℕ → State → Type 0
Attached k s = (s.flag ≡ 0) × (s.kind ≡ k)

-- these are, for each state in order with flag 0 and this kind, its count of records of its length
abbrev pub RecordLengths : ℕ → List State → List ℕ → Type 0
RecordLengths k [] ns = ns ≡ []
RecordLengths k (s ∷ ss) ns =
    (Attached k s × ((ms : List ℕ) × ((ns ≡ replicate s.count s.record_length ++ ms) × RecordLengths k ss ms)))
    ⊎ ((Attached k s → ⊥) × RecordLengths k ss ns)

-- ---- the headers: the bytes at hand and the length

module _ (b : List ℕ) (n : ℕ) where
  -- under 1,247 bytes
  abbrev pub Fault1 : ℕ → ℕ → Type 0
  Fault1 p e = (n < 1247) × At p e n none

  -- over 2,147,483,647 bytes
  abbrev pub Fault2 : ℕ → ℕ → Type 0
  Fault2 p e = (2147483647 < n) × At p e 0 none

  -- an MPH byte is not as laid out
  abbrev pub Fault3 : ℕ → ℕ → Type 0
  Fault3 p e = (p < 1247) × ((LaidOut (layout mph) b p → ⊥) × (e ≡ none))

  -- TOT_SIZE magnitude over 2^63 - 1
  abbrev pub Fault4 : ℕ → ℕ → Type 0
  Fault4 p e = (largest_signed < (tot_size b).magnitude) × At p e 1075 none

  -- TOT_SIZE is not the length
  abbrev pub Fault5 : ℕ → ℕ → Type 0
  Fault5 p e = (whole (tot_size b) ≡ pos n → ⊥) × At p e 1075 none

  -- SPH_SIZE not 0 to 49,152, or the headers pass the end; NUM_DSD not 0 to 128, or its DSDs exceed the SPH; DSD_SIZE not 280
  abbrev pub SphFits : Type 0
  SphFits = ((pos 0 ≤ℤ whole (sph_size b)) × (whole (sph_size b) ≤ℤ pos 49152)) × (headers_end b ≤ n)

  abbrev pub DsdsFit : Type 0
  DsdsFit = ((pos 0 ≤ℤ whole (num_dsd b)) × (whole (num_dsd b) ≤ℤ pos 128)) × (280 * entries b ≤ (sph_size b).magnitude)

  abbrev pub Fault6 : ℕ → ℕ → Type 0
  Fault6 p e =
      ((SphFits → ⊥) × At p e 1113 none)
      ⊎ (((DsdsFit → ⊥) × At p e 1140 none)
      ⊎ ((whole (dsd_size b) ≡ pos 280 → ⊥) × At p e 1161 none))

  -- a bad or unended SPH line: behind these bytes a line begins, and no line follows
  abbrev pub Fault7 : ℕ → ℕ → Type 0
  Fault7 p e =
      (before : List ℕ)
      × ((x : ℕ)
      × ((rest : List ℕ)
      × ((sph_lines b ≡ before ++ x ∷ rest)
      × (LineBegins before
      × (((l after : List ℕ) → x ∷ rest ≡ l ++ after → SphLine l → ⊥)
      × At p e (1247 + length before) none)))))

  -- a DSD byte is not as laid out
  abbrev pub Fault8 : ℕ → ℕ → Type 0
  Fault8 p e = (e < entries b) × ((i : ℕ) × ((i < 280) × ((DsdLaidOut (dsd_bytes b e) i → ⊥) × (p ≡ dsd_at b e + i))))

  -- DS_OFFSET or DS_SIZE magnitude over 2^63 - 1, at its sign
  abbrev pub Fault9 : ℕ → ℕ → Type 0
  Fault9 p e =
      (e < entries b)
      × (((largest_signed < (entry_at b e).offset.magnitude) × (p ≡ dsd_at b e + 133)) ⊎ ((largest_signed < (entry_at b e).size.magnitude) × (p ≡ dsd_at b e + 170)))

  -- DSD numbers break the rules
  abbrev pub Fault10 : ℕ → ℕ → Type 0
  Fault10 p e = (e < entries b) × ((NumbersFit (entry_at b e) → ⊥) × (p ≡ dsd_at b e))

  -- NUM_DATA_SETS is not the number of entries of type M, A or G whose DS_SIZE is above 0 (document 02, order 4)
  abbrev pub Fault11 : ℕ → ℕ → Type 0
  Fault11 p e = ((m : ℕ) → HowMany NonEmpty (directory b) m → whole (num_data_sets b) ≡ pos m → ⊥) × At p e 1194 none

-- ---- the sets: a directory, where the headers end, and the length

module _ (ds : List Entry) (h n : ℕ) where
  -- a non-empty set starts inside the headers or ends past the product
  abbrev pub Fault12 : ℕ → ℕ → Type 0
  Fault12 p e = (e < length ds) × ((NonEmpty (at ds e) × ((h ≤ start (at ds e)) × (start (at ds e) + extent (at ds e) ≤ n) → ⊥)) × (p ≡ start (at ds e)))

  -- a non-empty set shares a byte with one of a lower entry
  abbrev pub Fault13 : ℕ → ℕ → Type 0
  Fault13 p e = (e < length ds) × (((j : ℕ) × (j < e) × ((q : ℕ) × (Byte (at ds e) q × Byte (at ds j) q))) × (p ≡ start (at ds e)))

  -- a byte after the headers is in no set
  abbrev pub Fault14 : ℕ → ℕ → Type 0
  Fault14 p e = ((h ≤ p) × (p < n)) × ((((i : ℕ) × (i < length ds) × Byte (at ds i) p) → ⊥) × (e ≡ none))

-- ---- the states: their entry, and their records

module _ (b : List ℕ) (ds : List Entry) where
  abbrev pub HasVariable : Type 0
  HasVariable = (i : ℕ) × (i < length ds) × Variable (at ds i)

  -- entry i alone describes the states, and is not empty: its DSR_SIZE is not 1,387, or a record does not fit
  abbrev pub BadStates : ℕ → ℕ → ℕ → Type 0
  BadStates i p e =
      ((whole (at ds i).record_size ≡ pos 1387 → ⊥) × At p e (start (at ds i)) i)
      ⊎ ((whole (at ds i).record_size ≡ pos 1387)
      × ((k : ℕ) × ((k < (at ds i).count.magnitude) × ((StateFits (state_in b (at ds i) k) → ⊥) × At p e (state_at (at ds i) k) i))))

  -- states missing or bad
  abbrev pub Fault15 : ℕ → ℕ → Type 0
  Fault15 p e =
      HasVariable
      × ((((i : ℕ) → OnlyStates ds i → ⊥) × At p e 0 none)
      ⊎ ((i : ℕ) × (OnlyStates ds i × (NonEmpty (at ds i) × BadStates i p e))))

  -- the number of a set's records is NUM_DSR and their total DS_SIZE
  abbrev pub Filled : Entry → Type 0
  Filled f =
      (i : ℕ)
      × ((k : ℕ)
      × ((ns : List ℕ)
      × ((OnlyStates ds i × (OfKind f k × RecordLengths k (states_at b (at ds i)) ns))
      × ((length ns ≡ f.count.magnitude) × (sum ns ≡ extent f)))))

  -- a variable set not exactly filled
  abbrev pub Fault16 : ℕ → ℕ → Type 0
  Fault16 p e = (e < length ds) × ((Variable (at ds e) × (Filled (at ds e) → ⊥)) × (p ≡ start (at ds e)))

-- ---- all rules

abbrev pub Never : ℕ → ℕ → Type 0
Never p e = ⊥

module _ (b : List ℕ) where
  abbrev pub faults : List (ℕ → ℕ → Type 0)
  faults =
      Fault1 b (length b)
      ∷ Fault2 b (length b)
      ∷ Fault3 b (length b)
      ∷ Fault4 b (length b)
      ∷ Fault5 b (length b)
      ∷ Fault6 b (length b)
      ∷ Fault7 b (length b)
      ∷ Fault8 b (length b)
      ∷ Fault9 b (length b)
      ∷ Fault10 b (length b)
      ∷ Fault11 b (length b)
      ∷ Fault12 (directory b) (headers_end b) (length b)
      ∷ Fault13 (directory b) (headers_end b) (length b)
      ∷ Fault14 (directory b) (headers_end b) (length b)
      ∷ Fault15 b (directory b)
      ∷ Fault16 b (directory b)
      ∷ []

  -- the product has a fault of rule k at place p and entry e
  abbrev pub Fault : ℕ → ℕ → ℕ → Type 0
  Fault k p e = get_or (Never ∷ faults) k Never p e
