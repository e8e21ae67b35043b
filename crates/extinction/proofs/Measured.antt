-- The records of the set: each has 25,709 bytes, and the only refusal of one is 18.
-- Assumes nothing.
use Prim.Native.Nat.{ℕ, ◌<◌}
use mathlib.Core.Bool.{Bool, true, false, ◌&&◌}
use mathlib.Core.List.{List, []}
use mathlib.Core.Path.{◌≡◌, refl, sym, ap, ◌∙◌}
use native.Mathlib.Omega.{arith}
use lib.Dec.{ltb, ltb→lt, eqb→eq}
use lib.IntN.{pos}
use lib.Signed.{lt_z}
use lib.ListN.{length, drop, replicate, length-drop, get_or-replicate, length-replicate}
use lib.Seq.{length-take-le}
use borrow.Author.Tests.{lt-ltb}
use Rattle.layout.specs.Bytes.{part}
use Rattle.layout.specs.Text.{whole}
use Rattle.layout.specs.Answer.{accepted, refused, need}
use Rattle.layout.specs.Search.{count}
use Rattle.layout.specs.Entries.{Entry, directory, at, is_variable}
use Rattle.layout.specs.States.{State, states_of}
use Rattle.layout.specs.Rules.{verdict}
use Rattle.layout.specs.Records.{lengths, record_at, record_length, record_part, record_refusal, record_place, part_of}
use Rattle.layout.specs.Fields.{record_of}
use Rattle.layout.proofs.Laws.{or_else_accepts, need-accepts, eq_z-T}
use Rattle.layout.proofs.Tests.{counted_once}
use Rattle.layout.proofs.Sound.{sound, magnitude-is}
use Rattle.layout.proofs.Whole.{record-inside}
use Rattle.extinction.specs.Extinction.{is_extinction_at, extinction_entry, set_refusal}

-- ---- a record, and the part that is handed out for it

module _ (b : List ℕ) (i j : ℕ) where
  pub part_there : record_refusal b i j ≡ accepted → part_of b (record_place b i j) ≡ record_of b i j
  unfolding record_place part_of record_of record_part
  part_there h = rw h

  pub part-missing : (n p e : ℕ) → record_refusal b i j ≡ refused n p e → part_of b (record_place b i j) ≡ []
  unfolding record_place part_of
  part-missing n p e h = rw h

-- ---- records of the set

-- where the record size has no minus, records are equal
equal_records : (e : Entry) (m : ℕ) → whole e.record_size ≡ pos m → is_variable e ≡ false
unfolding is_variable
equal_records e m h = rw h (go (lt_z (pos 0) (whole e.size)))
  where
    go : (t : Bool) → (t && false) ≡ false
    go true = refl
    go false = refl

module _ (b : List ℕ) (accepts : verdict b ≡ accepted) (one : set_refusal (directory b) ≡ accepted) where
  abbrev ds : List Entry
  ds = directory b

  abbrev i : ℕ
  i = extinction_entry ds

  abbrev ss : List State
  ss = states_of b ds

  tests : (count (is_extinction_at ds) 0 (length ds) ≡ 1) × (whole (at ds i).record_size ≡ pos 25709)
  unfolding set_refusal
  tests =
      let h = simp (or_else_accepts, need-accepts) at one in
      (eqb→eq (count (is_extinction_at ds) 0 (length ds)) 1 h.0, (eq_z-T (whole (at ds i).record_size) (pos 25709)).0 h.1)

  pub inside : i < length ds
  unfolding extinction_entry
  inside = (counted_once (is_extinction_at ds) (length ds) tests.0).0

  all_equal : lengths ss (at ds i) ≡ replicate (at ds i).count.magnitude 25709
  unfolding lengths
  all_equal = rw (equal_records (at ds i) 25709 tests.1, magnitude-is (at ds i).record_size 25709 tests.1)

  -- once the product is accepted and the set found, a record is refused by 18 alone
  pub only_18 : (j : ℕ) → record_refusal b i j ≡ need (ltb j (length (lengths ss (at ds i)))) 18 0 i
  unfolding record_refusal
  only_18 j = rw (accepts, lt-ltb i (length ds) inside)

  there : (j : ℕ) → record_refusal b i j ≡ accepted → j < length (lengths ss (at ds i))
  there j h = ltb→lt j (length (lengths ss (at ds i))) ((need-accepts (ltb j (length (lengths ss (at ds i)))) 18 0 i).0 (sym (only_18 j) ∙ h))

  size-at : (j : ℕ) → j < length (lengths ss (at ds i)) → record_length ss (at ds i) j ≡ 25709
  unfolding record_length
  size-at j l = rw all_equal (get_or-replicate (at ds i).count.magnitude j 25709 0 (omega (arith, ap length all_equal, length-replicate {A = ℕ} (at ds i).count.magnitude 25709)))

  -- a record of the set has 25,709 bytes
  pub record-long : (j : ℕ) → record_refusal b i j ≡ accepted → length (record_of b i j) ≡ 25709
  unfolding record_of record_part part
  record-long j h =
      let l = there j h in
      let size = size-at j l in
      rw size
      (length-take-le 25709 (drop (record_at ss (at ds i) j) b)
      (omega (arith, record-inside b (sound b accepts) i j inside l, size, length-drop (record_at ss (at ds i) j) b)))
