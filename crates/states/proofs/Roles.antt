-- The tests of a role, and the searches by them.
-- Assumes nothing.
use Prim.Native.Nat.{ℕ, zero, suc, ◌+◌, ◌*◌, ◌-◌, ◌≤◌, ◌<◌}
use mathlib.Core.Bool.{Bool, true, false, not, ◌&&◌}
use mathlib.Core.List.{List, [], ◌∷◌}
use mathlib.Core.Path.{◌≡◌, refl, sym}
use native.Mathlib.Omega.{arith}
use native.Mathlib.Nat.{zero-add, add-zero, suc-add, add-suc}
use lib.Dec.{ltb, eqb}
use lib.ListN.{take, get_or}
use lib.Seq.{take-nil}
use borrow.Author.Tests.{eq-eqb, ne_eqb, lt-ltb, le-ltb, lt-leb, le-leb}
use Rattle.layout.specs.Bytes.{within}
use Rattle.std.specs.List.{list_any}
use Rattle.layout.specs.Answer.{accepted, refused}
use Rattle.layout.specs.Search.{some, find}
use Rattle.layout.specs.States.{of_kind}
use Rattle.dsd.specs.declared.Kind.{Kind}
use Rattle.dsd.specs.declared.Kind.TheVariants.{Nadir, Limb, Occultation, Monitoring}
use Rattle.dsd.specs.declared.Role.{Role}
use Rattle.dsd.specs.declared.Role.TheVariants.{Other, Variable, States, Unknown}
use Rattle.dsd.specs.Held.{kind_number, role_number, of_variable}
use Rattle.directory.specs.declared.Sets.{Sets}
use Rattle.states.specs.declared.Tally.{Tally}
use Rattle.states.specs.Roles.{varies_at, has_variable, unfilled, unfilled_at, rule16_by, described_by}

pub above : (n : ℕ) → (n ≡ 0 → ⊥) → 0 < n
above n h = omega arith

-- ---- some entry is a variable set

-- one of the first n of a list passes, as one of n numbers does
some_of_list : (xs : List Role) (t : ℕ → Bool) (i n : ℕ) → ((k : ℕ) → t (i + k) ≡ of_variable (get_or xs k Other)) → list_any of_variable (take n xs) ≡ some t i n
unfolding some of_variable
some_of_list xs t i zero h = refl
some_of_list [] t i (suc n) h = rw (rw add-zero at (h 0), ← some_of_list [] t (suc i) n (λ k. rw (suc-add, ← add-suc) (h (suc k))), take-nil n)
some_of_list (x ∷ xs) t i (suc n) h = rw (rw add-zero at (h 0), some_of_list xs t (suc i) n (λ k. rw (suc-add, ← add-suc) (h (suc k))))

pub variable_found : (roles : List Role) (n : ℕ) → list_any of_variable (take n roles) ≡ has_variable roles n
unfolding has_variable varies_at
variable_found roles n = some_of_list roles _ 0 n (λ k. rw zero-add)

-- ---- a set that is not filled

-- a role's number tells it: a variable set's is 1 to 4
unfilled_number : (role : Role) (count size : ℕ) (tallied totals : List ℕ)
    → unfilled role count size tallied totals ≡ (within 1 4 (role_number role) && not (eqb (of_kind tallied (role_number role)) count && eqb (of_kind totals (role_number role)) size))
unfolding unfilled role_number kind_number
unfilled_number (Variable Nadir) count size tallied totals = refl
unfilled_number (Variable Limb) count size tallied totals = refl
unfilled_number (Variable Occultation) count size tallied totals = refl
unfilled_number (Variable Monitoring) count size tallied totals = refl
unfilled_number States count size tallied totals = refl
unfilled_number Other count size tallied totals = refl
unfilled_number (Unknown n) count size tallied totals = refl

pub not_unfilled : (role : Role) (count size : ℕ) (tallied totals : List ℕ) → ((kind : Kind) → role ≡ Variable kind → ⊥) → false ≡ unfilled role count size tallied totals
unfolding unfilled
not_unfilled (Variable kind) count size tallied totals n = absurd (n kind refl)
not_unfilled States count size tallied totals n = refl
not_unfilled Other count size tallied totals n = refl
not_unfilled (Unknown m) count size tallied totals n = refl

module _ (kind : Kind) (place count size : ℕ) (tallied totals : List ℕ) (at : place + 1 ≡ kind_number kind) where
  here : place ≡ kind_number kind - 1
  here = omega (arith, at)

  pub count_differs : (get_or tallied place 0 ≡ count → ⊥) → true ≡ unfilled (Variable kind) count size tallied totals
  unfolding unfilled of_kind
  count_differs d = rw (← here, ne_eqb (get_or tallied place 0) count d)

  pub total_decides : get_or tallied place 0 ≡ count → not (eqb (get_or totals place 0) size) ≡ unfilled (Variable kind) count size tallied totals
  unfolding unfilled of_kind
  total_decides d = rw (← here, eq-eqb (get_or tallied place 0) count d)

-- ---- rule 16 by what is found

module _ (sets : Sets) (tallied totals : List ℕ) where
  pub all-filled : find (unfilled_at sets.roles sets.counts sets.sizes tallied totals) 0 sets.entries ≡ sets.entries → accepted ≡ rule16_by sets tallied totals
  unfolding rule16_by
  all-filled h = sym (rw (eq-eqb (find (unfilled_at sets.roles sets.counts sets.sizes tallied totals) 0 sets.entries) sets.entries h))

  module _ (r : ℕ) (found : r ≡ find (unfilled_at sets.roles sets.counts sets.sizes tallied totals) 0 sets.entries) where
    pub one-unfilled : (r ≡ sets.entries → ⊥) → refused 16 (get_or sets.offsets r 0) r ≡ rule16_by sets tallied totals
    unfolding rule16_by
    one-unfilled h = sym (rw (← found, ne_eqb r sets.entries h))

-- ---- rules 15 and 16 by the entry that describes the states

module _ (sets : Sets) (i : ℕ) (t : Tally) where
  pub by_empty : get_or sets.sizes i 0 ≡ 0 → rule16_by sets t.counts t.totals ≡ described_by sets i t
  unfolding described_by
  by_empty z = rw (le-ltb 0 (get_or sets.sizes i 0) (omega (arith, z)))

  module _ (some_bytes : get_or sets.sizes i 0 ≡ 0 → ⊥) where
    full : ltb 0 (get_or sets.sizes i 0) ≡ true
    full = lt-ltb 0 (get_or sets.sizes i 0) (above (get_or sets.sizes i 0) some_bytes)

    pub by_size : (get_or sets.sizes i 0 ≡ 1387 * get_or sets.counts i 0 → ⊥) → refused 15 (get_or sets.offsets i 0) i ≡ described_by sets i t
    unfolding described_by
    by_size h = rw (full, ne_eqb (get_or sets.sizes i 0) (1387 * get_or sets.counts i 0) h)

    module _ (right : get_or sets.sizes i 0 ≡ 1387 * get_or sets.counts i 0) where
      pub by_bad : t.bad < get_or sets.counts i 0 → refused 15 (get_or sets.offsets i 0 + 1387 * t.bad) i ≡ described_by sets i t
      unfolding described_by
      by_bad h = rw (full, eq-eqb (get_or sets.sizes i 0) (1387 * get_or sets.counts i 0) right, lt-leb (get_or sets.counts i 0) t.bad h)

      pub by_good : get_or sets.counts i 0 ≤ t.bad → rule16_by sets t.counts t.totals ≡ described_by sets i t
      unfolding described_by
      by_good h = rw (full, eq-eqb (get_or sets.sizes i 0) (1387 * get_or sets.counts i 0) right, le-leb (get_or sets.counts i 0) t.bad h)
