-- The names of the months: where the code has their letters, and that it finds each month again from its letters.
-- Assumes nothing.
use Prim.Native.Nat.{ℕ, ◌+◌, ◌*◌, ◌≤◌, ◌<◌}
use mathlib.Core.Bool.{Bool, true, false, ◌&&◌}
use mathlib.Core.List.{List, [], ◌∷◌}
use mathlib.Core.Path.{◌≡◌, refl, sym, ap, ◌∙◌}
use native.Mathlib.Omega.{arith}
use lib.Dec.{T, leb, eqb, eqb→eq, eqb_refl}
use lib.ListN.{get_or}
use mir.Syntax.{w32}
use Rattle.std.specs.Int.{to_le_bytes}
use Rattle.layout.specs.Bytes.{byte_at}
use Rattle.layout.specs.Answer.{need, accepted}
use Rattle.layout.specs.Search.{first, find}
use Rattle.std.proofs.Common.{Decides}
use Rattle.std.proofs.lemmas.Slice.Eq.{compares_Decides}
use Rattle.layout.proofs.Tests.{is_true}
use Rattle.layout.proofs.Laws.{and_T, leb-T, find_at, find_same}
use Rattle.calendar.proofs.Days.{each_passes}
use Rattle.times.specs.Times.{month_names, month_name, same_bytes, is_named, month_in}
use Rattle.times.specs.Formed.{name_number, is_numbered, month_numbered}

-- ---- equal bytes

same_equal : (a b : List ℕ) → Decides (same_bytes a b) (a ≡ b)
unfolding same_bytes
same_equal = compares_Decides same_bytes (record { empty = refl; shorter = λ y b. refl; longer = λ x a. refl; heads = λ x y a b. refl })

pub same_is : (a b : List ℕ) → T (same_bytes a b) → a ≡ b
same_is a b h = (same_equal a b).0 (is_true (same_bytes a b) h)

pub is_same : (a : List ℕ) → T (same_bytes a a)
is_same a = rw ((same_equal a a).1 refl) tt

-- ---- three capitals

abbrev letters_of : ℕ → List ℕ
letters_of m = byte_at (month_name m) 0 ∷ byte_at (month_name m) 1 ∷ byte_at (month_name m) 2 ∷ []

abbrev capital : ℕ → Bool
capital x = leb 65 x && leb x 90

abbrev three : ℕ → Bool
three m = same_bytes (month_name m) (letters_of m) && (capital (byte_at (month_name m) 0) && (capital (byte_at (month_name m) 1) && capital (byte_at (month_name m) 2)))

names_three : first (λ m. need (three m) 0 0 0) 1 12 ≡ accepted
unfolding first same_bytes month_name month_names byte_at
names_three = refl

abbrev Capital : ℕ → Type 0
Capital x = (65 ≤ x) × (x ≤ 90)

module _ (m : ℕ) (l : 1 ≤ m) (u : m ≤ 12) where
  told : T (same_bytes (month_name m) (letters_of m)) × (Capital (byte_at (month_name m) 0) × (Capital (byte_at (month_name m) 1) × Capital (byte_at (month_name m) 2)))
  told = simp (and_T, leb-T) at (each_passes three 1 12 names_three m l (omega arith))

  pub name_spelled : month_name m ≡ letters_of m
  name_spelled = same_is (month_name m) (letters_of m) told.0

  pub capitals : Capital (byte_at (month_name m) 0) × (Capital (byte_at (month_name m) 1) × Capital (byte_at (month_name m) 2))
  capitals = told.1

-- ---- the month of a name

names-found : first (λ m. need (eqb (month_in (month_name m)) m) 0 0 0) 1 12 ≡ accepted
unfolding first same_bytes month_name month_names month_in is_named find
names-found = refl

pub month_back : (m : ℕ) → 1 ≤ m → m ≤ 12 → month_in (month_name m) ≡ m
month_back m l u = eqb→eq (month_in (month_name m)) m (each_passes (λ m. eqb (month_in (month_name m)) m) 1 12 names-found m l (omega arith))

pub name_back : (name : List ℕ) → month_in name ≤ 12 → month_name (month_in name) ≡ name
unfolding month_in is_named
name_back name u = sym (same_is name (month_name (month_in name)) (find_at (is_named name) 1 12 (omega arith)))

-- ---- names as numbers

test_same : (p q : Bool) → (T p → T q) → (T q → T p) → p ≡ q
test_same true true f g = refl
test_same true false f g = absurd (f tt)
test_same false true f g = absurd (g tt)
test_same false false f g = refl

-- a byte, and what is above it
apart : (a b x y : ℕ) → a < 256 → x < 256 → a + 256 * b ≡ x + 256 * y → (a ≡ x) × (b ≡ y)
apart a b x y h k e = (omega arith, omega arith)

module _ (a b c : ℕ) (ha : a < 256) (hb : b < 256) (hc : c < 256) where
  -- three bytes are a name where their number is the name's
  number-named : (m : ℕ) → 1 ≤ m → m ≤ 12 → is_numbered (a + 256 * b + 65536 * c) m ≡ is_named (a ∷ b ∷ c ∷ []) m
  unfolding is_numbered is_named name_number
  number-named m l u =
      let x = byte_at (month_name m) 0 in
      let y = byte_at (month_name m) 1 in
      let z = byte_at (month_name m) 2 in
      let k = capitals m l u in
      test_same (eqb (a + 256 * b + 65536 * c) (x + 256 * y + 65536 * z)) (same_bytes (a ∷ b ∷ c ∷ []) (x ∷ y ∷ z ∷ []))
      (λ h. let e = apart a (b + 256 * c) x (y + 256 * z) ha (omega (arith, k.0.1)) (omega (arith, eqb→eq (a + 256 * b + 65536 * c) (x + 256 * y + 65536 * z) h)) in
      let f = apart b c y z hb (omega (arith, k.1.0.1)) e.1 in
      rw (e.0, f.0, f.1) (is_same (x ∷ y ∷ z ∷ [])))
      (λ h. let e = same_is (a ∷ b ∷ c ∷ []) (x ∷ y ∷ z ∷ []) h in
      let p : a ≡ x = ap (λ (n : List ℕ). get_or n 0 0) e in
      let q : b ≡ y = ap (λ (n : List ℕ). get_or n 1 0) e in
      let r : c ≡ z = ap (λ (n : List ℕ). get_or n 2 0) e in
      rw (p, q, r) (eqb_refl (x + 256 * y + 65536 * z)))
      ∙ ap (λ (name : List ℕ). same_bytes (a ∷ b ∷ c ∷ []) name) (sym (name_spelled m l u))

  pub month-numbered : month_numbered (a + 256 * b + 65536 * c) ≡ month_in (a ∷ b ∷ c ∷ [])
  unfolding month_numbered month_in
  month-numbered = find_same (is_numbered (a + 256 * b + 65536 * c)) (is_named (a ∷ b ∷ c ∷ [])) 1 12 (λ m l u. number-named m l (omega arith))

-- the bytes of a name's number
abbrev letters : ℕ → List ℕ
letters m = byte_at (month_name m) 0 ∷ byte_at (month_name m) 1 ∷ byte_at (month_name m) 2 ∷ 0 ∷ []

names_numbered : first (λ m. need (same_bytes (to_le_bytes w32 (name_number (month_name m))) (letters m)) 0 0 0) 1 12 ≡ accepted
unfolding first same_bytes name_number month_name month_names byte_at
names_numbered = refl

pub name_bytes : (m : ℕ) → 1 ≤ m → m ≤ 12 → to_le_bytes w32 (name_number (month_name m)) ≡ letters m
name_bytes m l u =
    same_is (to_le_bytes w32 (name_number (month_name m))) (letters m)
    (each_passes (λ m. same_bytes (to_le_bytes w32 (name_number (month_name m))) (letters m)) 1 12 names_numbered m l (omega arith))
