-- The turns of rule 10's test on one entry, which sets are counted, and what the view of a held entry shows of its name.
-- Assumes nothing.
use mathlib.Core.Bool.{Bool, true, false, cond, ◌&&◌, ◌||◌, not, and-true, and-false, and_assoc}
use mathlib.Core.Path.{◌≡◌, refl, sym, ◌∙◌}
use native.Mathlib.Omega.{arith}
use Prim.Native.Nat.{◌<◌}
use lib.Dec.{ltb, eqb}
use lib.IntN.{pos, negsuc}
use lib.Signed.{le_z, lt_z}
use borrow.Author.Tests.{eq-eqb, ne_eqb, lt-ltb, le-ltb, le-leb, lt-leb}
use Rattle.layout.specs.Text.{whole}
use Rattle.layout.specs.Entries.{Entry, eq_z, kind_of, is_data, non_empty, is_reference, all_zero, in_range, is_fixed, is_variable, is_states, set_fits, numbers_fit}
use Rattle.layout.proofs.Tests.{variable_T, variable_kind}
use Rattle.dsd.specs.declared.Kind.TheVariants.{Nadir, Limb, Occultation, Monitoring}
use Rattle.dsd.specs.declared.Role.{Role}
use Rattle.dsd.specs.declared.Role.TheVariants.{Other, Variable, States, Unknown}
use Rattle.dsd.specs.Held.{kind_number, role_number, of_variable, of_states, number_from, view_of, role_of}
use Rattle.dsd.specs.declared.Entry.{Entry as HeldEntry}
use Rattle.dsd.proofs.Numbers.{is_zero, above, from_one, plus, both_pass, is-minus-one}
use Rattle.dsd.proofs.Names.{states_number, kind_role, states_by_role, role_text, known_number, variable_known}

-- ---- a set whose numbers are in range

pub all_four : (a b c d : Bool) → (a && (b && (c && d))) ≡ true → (b ≡ true) × (c ≡ true) × (d ≡ true)
all_four a b c d h =
    let s = (both_pass a (b && (c && d)) h).1 in
    let t = (both_pass b (c && d) s).1 in
    ((both_pass b (c && d) s).0, (both_pass c d t).0, (both_pass c d t).1)

module _ (e : Entry) (r : in_range e ≡ true) where
  from_zero : (le_z (pos 0) (whole e.size) ≡ true) × (le_z (pos 0) (whole e.count) ≡ true) × (le_z (negsuc 0) (whole e.record_size) ≡ true)
  unfolding in_range
  from_zero = all_four (le_z (pos 0) (whole e.offset)) (le_z (pos 0) (whole e.size)) (le_z (pos 0) (whole e.count)) (le_z (negsuc 0) (whole e.record_size)) r

  pub set-empty : e.size.magnitude ≡ 0 → eqb e.count.magnitude 0 ≡ set_fits e
  unfolding set_fits
  set-empty h =
      rw (is_zero e.size, eq-eqb e.size.magnitude 0 h, is_zero e.count, above e.size, le-ltb 0 e.size.magnitude (omega arith), and-false)
      (sym (and-true (eqb e.count.magnitude 0)))

  module _ (f : e.size.magnitude ≡ 0 → ⊥) where
    size_above : (not e.size.minus && ltb 0 e.size.magnitude) ≡ true
    size_above = rw (plus e.size from_zero.0 f, lt-ltb 0 e.size.magnitude (omega arith))

    pub set_uncounted : e.count.magnitude ≡ 0 → false ≡ set_fits e
    unfolding set_fits
    set_uncounted h =
        rw (is_zero e.size, ne_eqb e.size.magnitude 0 f, above e.size, size_above, from_one e.count, lt-leb 1 e.count.magnitude (omega arith), and-false)

    set-filled : (e.count.magnitude ≡ 0 → ⊥) → set_fits e ≡ (is_fixed e || is_variable e)
    unfolding set_fits
    set-filled h =
        rw (is_zero e.size, ne_eqb e.size.magnitude 0 f, above e.size, size_above, from_one e.count, plus e.count from_zero.1 h, le-leb 1 e.count.magnitude (omega arith))

    module _ (g : e.count.magnitude ≡ 0 → ⊥) where
      pub set_fixed : is_fixed e ≡ true → true ≡ set_fits e
      set_fixed h = sym (set-filled g ∙ rw h)

      pub set_variable : is_fixed e ≡ false → is_variable e ≡ set_fits e
      set_variable h = sym (set-filled g ∙ rw h)

-- ---- one entry

module _ (e : Entry) where
  pub fits_reference : e.type ≡ 82 → all_zero e ≡ numbers_fit e
  unfolding numbers_fit is_reference is_data
  fits_reference h =
      rw (eq-eqb e.type 82 h, ne_eqb e.type 77 (λ q. omega arith), ne_eqb e.type 65 (λ q. omega arith), ne_eqb e.type 71 (λ q. omega arith), and-true (all_zero e))

  module _ (n : e.type ≡ 82 → ⊥) where
    pub fits-spare : is_data e ≡ false → true ≡ numbers_fit e
    unfolding numbers_fit is_reference
    fits-spare h = rw (ne_eqb e.type 82 n, h)

    pub fits_out : is_data e ≡ true → in_range e ≡ false → false ≡ numbers_fit e
    unfolding numbers_fit is_reference
    fits_out h k = rw (ne_eqb e.type 82 n, h, k)

    pub fits-set : is_data e ≡ true → in_range e ≡ true → set_fits e ≡ numbers_fit e
    unfolding numbers_fit is_reference
    fits-set h k = rw (ne_eqb e.type 82 n, h, k)

-- ---- the view's name

module _ (h : HeldEntry) where
  pub view_named : ltb 0 (kind_of (view_of h)) ≡ of_variable h.name_role
  unfolding view_of role_number kind_number of_variable
  view_named = rw (kind_role (view_of h), role_text h.name_role, known_number h.name_role) (go h.name_role)
    where
      go : (r : Role) → ltb 0 (cond (ltb (role_number r) 5) (role_number r) 0) ≡ of_variable r
      go (Variable Nadir) = refl
      go (Variable Limb) = refl
      go (Variable Occultation) = refl
      go (Variable Monitoring) = refl
      go States = refl
      go Other = refl
      go (Unknown n) = refl

  view_states : is_states (view_of h) ≡ (eqb h.ds_type 65 && of_states h.name_role)
  unfolding view_of
  view_states = rw (states_by_role (view_of h), role_text h.name_role, known_number h.name_role, states_number h.name_role)

  -- all but the name passes, t says of the name
  pub all_pass : {t : Bool} → h.size.minus ≡ false → (h.size.magnitude ≡ 0 → ⊥) → h.record_size.minus ≡ true → h.record_size.magnitude ≡ 1 → h.ds_type ≡ 77
      → t ≡ (lt_z (pos 0) (whole (view_of h).size) && (eq_z (whole (view_of h).record_size) (negsuc 0) && (eqb (view_of h).type 77 && t)))
  unfolding view_of number_from
  all_pass s f m o t =
      rw (above (number_from h.size), s, lt-ltb 0 h.size.magnitude (omega arith), is-minus-one (number_from h.record_size), m, eq-eqb h.record_size.magnitude 1 o, eq-eqb h.ds_type 77 t)

  pub role_variable : is_variable (view_of h) ≡ true → h.name_role ≡ role_of (view_of h)
  unfolding role_of view_of
  role_variable v = rw (v, role_text h.name_role) (variable_known h.name_role (sym view_named ∙ lt-ltb 0 (kind_of (view_of h)) some))
    where
      some : 0 < kind_of (view_of h)
      some = (variable_kind (view_of h) ((variable_T (view_of h)).0 (rw v tt))).0

  module _ (v : is_variable (view_of h) ≡ false) where
    pub role_other : (h.ds_type ≡ 65 → ⊥) → Other ≡ role_of (view_of h)
    unfolding role_of
    role_other n = rw (v, view_states, ne_eqb h.ds_type 65 n)

    pub role_states : h.ds_type ≡ 65 → of_states h.name_role ≡ true → States ≡ role_of (view_of h)
    unfolding role_of
    role_states t n = rw (v, view_states, eq-eqb h.ds_type 65 t, n)

    pub role_none : of_states h.name_role ≡ false → Other ≡ role_of (view_of h)
    unfolding role_of
    role_none n = rw (v, view_states, n, and-false)

-- what a set is, in the turns of the test
pub ruleset what_it_is = (role_variable, role_other, role_states, role_none)

-- ---- rule 11: a set of one byte or more, by the sign and the magnitude of its size; t says whether it is a set

pub non_empty_by : (h : HeldEntry) {t : Bool} → t ≡ is_data (view_of h) → (t && not h.size.minus && ltb 0 h.size.magnitude) ≡ non_empty (view_of h)
unfolding non_empty view_of number_from
non_empty_by h {t} e = and_assoc t (not h.size.minus) (ltb 0 h.size.magnitude) ∙ rw (e, above (number_from h.size))
