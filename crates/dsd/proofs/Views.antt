-- What is held of an entry against the entry itself, where rule 9 holds of it.
-- Assumes nothing.
use Prim.Native.Nat.{ℕ, ◌≤◌}
use mathlib.Core.Bool.{Bool, true, false, cond}
use mathlib.Core.List.{List, []}
use mathlib.Core.Path.{◌≡◌, refl, sym, ap, ◌∙◌}
use native.Mathlib.Omega.{arith}
use lib.Dec.{leb, ltb}
use borrow.Author.Tests.{leb-true}
use Rattle.layout.specs.Text.{whole}
use Rattle.layout.specs.Entries.{Entry, largest_signed, start, extent, kind_of, is_data, non_empty, is_reference, is_variable, is_states, all_zero, in_range, is_fixed, set_fits, numbers_fit}
use Rattle.layout.specs.Answers.{type_of, count_of, record_size_of}
use Rattle.layout.proofs.Laws.{leb-not, ltb_same}
use Rattle.text.specs.Numbers.{capped, whole_in}
use Rattle.dsd.specs.declared.Entry.{Entry as HeldEntry}
use Rattle.dsd.specs.Held.{name_role, name_text, number_from, held_of, view_of, over_place, role_of}
use Rattle.dsd.proofs.Numbers.{above}
use Rattle.dsd.proofs.Names.{kind_role, states_by_role, name_known}

-- ---- numbers held at 2^63

-- what is held is above k where the number is, for k below 2^63
capped_above : (k m : ℕ) → k ≤ largest_signed → ltb k (capped m) ≡ ltb k m
unfolding capped
capped_above k m l = ltb_same k (capped m) k m (λ h. omega arith) (λ h. omega arith)

pub capped_test : (m : ℕ) → leb (capped m) largest_signed ≡ leb m largest_signed
capped_test m = rw (leb-not (capped m) largest_signed, leb-not m largest_signed, capped_above largest_signed m (omega arith))

capped_same : (m : ℕ) → leb (capped m) largest_signed ≡ true → capped m ≡ m
unfolding capped
capped_same m h = let l = leb-true (capped m) largest_signed h in omega arith

over_none : (t u : Bool) → ◌≡◌ {A = ℕ} (cond t (cond u 0 170) 133) 0 → (t ≡ true) × (u ≡ true)
over_none true true h = (refl, refl)
over_none true false h = absurd (omega arith)
over_none false u h = absurd (omega arith)

pub over_held : (e : Entry) → over_place (view_of (held_of e)) ≡ over_place e
unfolding over_place view_of held_of number_from
over_held e = rw (capped_test e.offset.magnitude, capped_test e.size.magnitude)

-- a set of one byte or more is held as one, whatever its size is held at
pub held-non_empty : (e : Entry) → non_empty (view_of (held_of e)) ≡ non_empty e
unfolding non_empty is_data view_of held_of number_from
held-non_empty e = rw (above (number_from (held_of e).size), above e.size, capped_above 0 e.size.magnitude (omega arith))

-- ---- the entry under another name

abbrev renamed : Entry → List ℕ → Entry
renamed e name =
    record { type = e.type; name = name; filename = []; offset = e.offset; size = e.size; count = e.count; record_size = e.record_size }

module _ (e : Entry) where
  abbrev by_role : Entry
  by_role = renamed e (name_text (name_role e.name))

  same_kind : kind_of by_role ≡ kind_of e
  same_kind = kind_role by_role ∙ rw (name_known e.name) (sym (kind_role e))

  same_states : is_states by_role ≡ is_states e
  same_states = states_by_role by_role ∙ rw (name_known e.name) (sym (states_by_role e))

  same_variable : is_variable by_role ≡ is_variable e
  unfolding is_variable
  same_variable = rw same_kind

  same_fits : numbers_fit by_role ≡ numbers_fit e
  unfolding numbers_fit is_reference is_data all_zero in_range set_fits is_fixed
  same_fits = rw same_variable

  same_role : role_of by_role ≡ role_of e
  unfolding role_of
  same_role = rw (same_variable, same_states, name_known e.name)

  module _ (ok : over_place (view_of (held_of e)) ≡ 0) where
    offset-held : capped e.offset.magnitude ≡ e.offset.magnitude
    unfolding over_place view_of held_of number_from
    offset-held = capped_same e.offset.magnitude (over_none (leb (capped e.offset.magnitude) largest_signed) (leb (capped e.size.magnitude) largest_signed) ok).0

    size-held : capped e.size.magnitude ≡ e.size.magnitude
    unfolding over_place view_of held_of number_from
    size-held = capped_same e.size.magnitude (over_none (leb (capped e.offset.magnitude) largest_signed) (leb (capped e.size.magnitude) largest_signed) ok).1

    view : view_of (held_of e) ≡ by_role
    unfolding view_of held_of number_from
    view =
        λ j. record {
          type = e.type;
          name = name_text (name_role e.name);
          filename = [];
          offset = record { minus = e.offset.minus; magnitude = offset-held j };
          size = record { minus = e.size.minus; magnitude = size-held j };
          count = e.count;
          record_size = e.record_size;
        }

-- ---- what is asked of an entry, asked of what is held of it

pub record Turn (e : Entry) (h : HeldEntry) : Type 0 where
  pub types : h.ds_type ≡ type_of e
  pub offsets : h.offset.magnitude ≡ start e
  pub sizes : h.size.magnitude ≡ extent e
  pub counts : h.count.magnitude ≡ count_of e
  pub record-sizes : whole_in h.record_size ≡ record_size_of e
  pub roles : role_of (view_of h) ≡ role_of e
  pub fits : numbers_fit (view_of h) ≡ numbers_fit e

pub turn_held : (e : Entry) → over_place (view_of (held_of e)) ≡ 0 → Turn e (held_of e)
unfolding held_of start extent whole_in whole
turn_held e ok =
    record {
      types = refl;
      offsets = offset-held e ok;
      sizes = size-held e ok;
      counts = refl;
      record-sizes = refl;
      roles = ap role_of (view e ok) ∙ same_role e;
      fits = ap numbers_fit (view e ok) ∙ same_fits e;
    }
