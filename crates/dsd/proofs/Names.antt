-- The names that rules 10, 15 and 16 ask for: a name's role, and a name of a role.
-- Assumes nothing.
use Prim.Native.Nat.{ℕ, zero, suc, ◌+◌, ◌<◌, ◌≤◌}
use mathlib.Core.Bool.{Bool, true, false, cond, ◌&&◌}
use mathlib.Core.List.{List, [], ◌∷◌}
use mathlib.Core.Path.{◌≡◌, refl, sym, ◌∙◌}
use native.Mathlib.Omega.{arith}
use denote.Enum.Declared.{tag_of}
use lib.Dec.{ltb, eqb, lit<}
use borrow.Author.Tests.{ne_eqb, eqb-true, lt-ltb}
use Rattle.layout.specs.Bytes.{bytes, within}
use Rattle.layout.specs.Entries.{Entry, called, kind_of, is_variable, is_states}
use Rattle.layout.proofs.Tests.{variable_T, variable_kind}
use Rattle.dsd.specs.contracts.Kind.{the_type}
use Rattle.dsd.specs.declared.Kind.{Kind}
use Rattle.dsd.specs.declared.Kind.TheVariants.{Nadir, Limb, Occultation, Monitoring}
use Rattle.dsd.specs.declared.Role.{Role}
use Rattle.dsd.specs.declared.Role.TheVariants.{Other, Variable, States, Unknown}
use Rattle.dsd.specs.Held.{kind_number, role_number, role_numbered, of_variable, of_states, name_role, name_text, role_of}

-- ---- numbers

-- a kind as a number is its number
pub kind_tag : (k : Kind) → tag_of the_type k + 1 ≡ kind_number k
unfolding kind_number
kind_tag Nadir = refl
kind_tag Limb = refl
kind_tag Occultation = refl
kind_tag Monitoring = refl

pub kind_range : (k : Kind) → (0 < kind_number k) × (kind_number k < 5)
unfolding kind_number
kind_range Nadir = (lit< tt, lit< tt)
kind_range Limb = (lit< tt, lit< tt)
kind_range Occultation = (lit< tt, lit< tt)
kind_range Monitoring = (lit< tt, lit< tt)

-- a variable set is one of the roles 1 to 4, the states are role 5
pub variable_number : (r : Role) → of_variable r ≡ within 1 4 (role_number r)
unfolding of_variable role_number kind_number
variable_number (Variable Nadir) = refl
variable_number (Variable Limb) = refl
variable_number (Variable Occultation) = refl
variable_number (Variable Monitoring) = refl
variable_number States = refl
variable_number Other = refl
variable_number (Unknown n) = refl

pub states_number : (r : Role) → of_states r ≡ eqb (role_number r) 5
unfolding of_states role_number kind_number
states_number (Variable Nadir) = refl
states_number (Variable Limb) = refl
states_number (Variable Occultation) = refl
states_number (Variable Monitoring) = refl
states_number States = refl
states_number Other = refl
states_number (Unknown n) = refl

-- ---- roles

-- names that begin with other bytes
apart : (name : List ℕ) (x y : ℕ) (xs ys : List ℕ) → (x ≡ y → ⊥) → called name (x ∷ xs) ≡ true → called name (y ∷ ys) ≡ false
unfolding called
apart [] x y xs ys n h = refl
apart (z ∷ name) x y xs ys n h = go (eqb z x) refl h
  where
    go : (t : Bool) → eqb z x ≡ t → (t && called name xs) ≡ true → (eqb z y && called name ys) ≡ false
    go true e h = let q : z ≡ x = eqb-true z x e in rw (ne_eqb z y (λ w. n (sym q ∙ w)))
    go false e h = let z : ◌≡◌ {A = ℕ} 0 1 = cc in absurd (omega arith)

abbrev role : Bool → Bool → Bool → Bool → Bool → Role
role n l o m s = cond n (Variable Nadir) (cond l (Variable Limb) (cond o (Variable Occultation) (cond m (Variable Monitoring) (cond s States Other))))

-- a kind is a role whose number is below 5
pub kind_role : (e : Entry) → kind_of e ≡ cond (ltb (role_number (name_role e.name)) 5) (role_number (name_role e.name)) 0
unfolding kind_of name_role role_number kind_number
kind_role e =
    go (called e.name (bytes "NADIR")) (called e.name (bytes "LIMB")) (called e.name (bytes "OCCULTATION")) (called e.name (bytes "MONITORING"))
    (called e.name (bytes "STATES"))
  where
    go : (n l o m s : Bool) → cond n 1 (cond l 2 (cond o 3 (cond m 4 0))) ≡ cond (ltb (role_number (role n l o m s)) 5) (role_number (role n l o m s)) 0
    go true l o m s = refl
    go false true o m s = refl
    go false false true m s = refl
    go false false false true s = refl
    go false false false false true = refl
    go false false false false false = refl

-- the states' name is the one of role 5
pub states_role : (name : List ℕ) → called name (bytes "STATES") ≡ eqb (role_number (name_role name)) 5
unfolding name_role role_number kind_number
states_role name =
    go (called name (bytes "NADIR")) (called name (bytes "LIMB")) (called name (bytes "OCCULTATION")) (called name (bytes "MONITORING"))
    (called name (bytes "STATES")) (λ h. apart name 78 83 _ _ (λ e. omega arith) h) (λ h. apart name 76 83 _ _ (λ e. omega arith) h)
    (λ h. apart name 79 83 _ _ (λ e. omega arith) h) (λ h. apart name 77 83 _ _ (λ e. omega arith) h)
  where
    go : (n l o m s : Bool) → (n ≡ true → s ≡ false) → (l ≡ true → s ≡ false) → (o ≡ true → s ≡ false) → (m ≡ true → s ≡ false)
        → s ≡ eqb (role_number (role n l o m s)) 5
    go true l o m s hn hl ho hm = hn refl
    go false true o m s hn hl ho hm = hl refl
    go false false true m s hn hl ho hm = ho refl
    go false false false true s hn hl ho hm = hm refl
    go false false false false true hn hl ho hm = refl
    go false false false false false hn hl ho hm = refl

-- the states are a set of type A and role 5
pub states_by_role : (e : Entry) → is_states e ≡ (eqb e.type 65 && eqb (role_number (name_role e.name)) 5)
unfolding is_states
states_by_role e = rw (states_role e.name)

-- a role that a name has; a number that is no role's says no more than Other. Other crates may unfold it, since `role_text` is told by it
unfoldable pub known : Role → Role
known Other = Other
known (Variable kind) = Variable kind
known States = States
known (Unknown n) = Other

pub known_number : (r : Role) → role_number (known r) ≡ role_number r
unfolding known role_number
known_number Other = refl
known_number (Variable kind) = refl
known_number States = refl
known_number (Unknown n) = refl

-- a role's name has that role
pub role_text : (r : Role) → name_role (name_text r) ≡ known r
unfolding name_role name_text called known
role_text (Variable Nadir) = refl
role_text (Variable Limb) = refl
role_text (Variable Occultation) = refl
role_text (Variable Monitoring) = refl
role_text States = refl
role_text Other = refl
role_text (Unknown n) = refl

pub variable_known : (r : Role) → of_variable r ≡ true → r ≡ known r
unfolding of_variable known
variable_known (Variable kind) v = refl
variable_known States v = cc
variable_known Other v = refl
variable_known (Unknown n) v = cc

-- a name's role is one that a name has
pub name_known : (name : List ℕ) → name_role (name_text (name_role name)) ≡ name_role name
unfolding name_role known
name_known name =
    role_text (name_role name)
    ∙ go (called name (bytes "NADIR")) (called name (bytes "LIMB")) (called name (bytes "OCCULTATION")) (called name (bytes "MONITORING")) (called name (bytes "STATES"))
  where
    go : (n l o m s : Bool) → known (role n l o m s) ≡ role n l o m s
    go true l o m s = refl
    go false true o m s = refl
    go false false true m s = refl
    go false false false true s = refl
    go false false false false true = refl
    go false false false false false = refl

-- a number up to 5 is that of its role; any other is kept
pub numbered_number : (n : ℕ) → n < 6 → role_number (role_numbered n) ≡ n
unfolding role_number role_numbered kind_number
numbered_number zero h = refl
numbered_number (suc zero) h = refl
numbered_number (suc (suc zero)) h = refl
numbered_number (suc (suc (suc zero))) h = refl
numbered_number (suc (suc (suc (suc zero)))) h = refl
numbered_number (suc (suc (suc (suc (suc zero))))) h = refl
numbered_number (suc (suc (suc (suc (suc (suc n)))))) h = absurd (omega (arith, h))

pub numbered_unknown : (n : ℕ) → 6 ≤ n → role_numbered n ≡ Unknown n
unfolding role_numbered
numbered_unknown n h =
    rw (ne_eqb n 0 (λ q. omega arith), ne_eqb n 1 (λ q. omega arith), ne_eqb n 2 (λ q. omega arith), ne_eqb n 3 (λ q. omega arith), ne_eqb n 4 (λ q. omega arith), ne_eqb n 5 (λ q. omega arith))

-- a variable set's name is that of its kind
pub named : (e : Entry) → is_variable e ≡ true → (k : Kind) × (name_role e.name ≡ Variable k) × (kind_number k ≡ kind_of e)
unfolding role_number
named e v = go (name_role e.name) refl (kind_role e)
  where
    some : 0 < kind_of e
    some = (variable_kind e ((variable_T e).0 (rw v tt))).0

    go : (r : Role) → name_role e.name ≡ r → kind_of e ≡ cond (ltb (role_number (name_role e.name)) 5) (role_number (name_role e.name)) 0
        → (k : Kind) × (name_role e.name ≡ Variable k) × (kind_number k ≡ kind_of e)
    go (Variable k) q n = (k, q, sym (rw (q, lt-ltb (kind_number k) 5 (kind_range k).1) at n))
    go States q n = absurd (omega (arith, some, rw q at n))
    go Other q n = absurd (omega (arith, some, rw q at n))
    go (Unknown m) q n = absurd (omega (arith, some, rw q at n))

-- a role's number is a variable set's kind; 5 for the states; else 0
pub number-of-role : (e : Entry) → role_number (role_of e) ≡ cond (is_variable e) (kind_of e) (cond (is_states e) 5 0)
unfolding role_of role_number
number-of-role e = go (is_variable e) (is_states e) refl
  where
    go : (v s : Bool) → is_variable e ≡ v → role_number (cond v (name_role e.name) (cond s States Other)) ≡ cond v (kind_of e) (cond s 5 0)
    go true s h = let k = named e h in rw k.1 k.2
    go false true h = refl
    go false false h = refl
