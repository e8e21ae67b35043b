-- The arrays of a list of entries, and rule 16 by them.
-- Assumes nothing.
use Prim.Native.Nat.{ℕ, ◌<◌}
use mathlib.Core.Bool.{Bool, true, false, cond, ◌&&◌, not}
use mathlib.Core.List.{List}
use mathlib.Core.Path.{◌≡◌, refl, sym, ◌∙◌, ap}
use native.Mathlib.Omega.{arith}
use native.Mathlib.Nat.{zero-add}
use lib.Dec.{eqb}
use lib.ListN.{length, get_or}
use Rattle.layout.specs.Answer.{accepted, need, where'}
use Rattle.layout.specs.Search.{some, count, only}
use Rattle.layout.specs.Entries.{Entry, at, start, extent, kind_of, is_variable, is_states}
use Rattle.layout.specs.States.{is_states_at, states_entry, of_kind}
use Rattle.layout.specs.Rules.{is_variable_at, is_filled, rule16_at, rule16}
use Rattle.layout.specs.Answers.{count_of}
use Rattle.layout.proofs.Laws.{some_same, first_found, not-not}
use Rattle.layout.proofs.Only.{only_same}
use Rattle.layout.proofs.Tests.{variable_T}
use Rattle.layout.proofs.Padded.{padded-at}
use Rattle.dsd.specs.declared.Kind.{Kind}
use Rattle.dsd.specs.declared.Role.TheVariants.{Other, Variable, States}
use Rattle.dsd.specs.Held.{kind_number, of_variable, of_states, role_of}
use Rattle.dsd.proofs.Names.{named}
use Rattle.directory.specs.Numbers.{sets_of}
use Rattle.states.specs.declared.Tally.{Tally}
use Rattle.states.specs.States.{tally_from}
use Rattle.states.specs.Roles.{has_variable, varies_at, describes_at, only_states, unfilled, unfilled_at, rule16_by}

-- ---- roles

role_kind : (e : Entry) → is_variable e ≡ true → (k : Kind) × (role_of e ≡ Variable k) × (kind_number k ≡ kind_of e)
unfolding role_of
role_kind e h = let k = named e h in (k.0, rw (h, k.1), k.2)

role_other : (e : Entry) → is_variable e ≡ false → role_of e ≡ cond (is_states e) States Other
unfolding role_of
role_other e h = rw h

-- a variable set is of type M, and what describes states of type A
not_both : (e : Entry) → is_variable e ≡ true → is_states e ≡ false
unfolding is_states
not_both e h = let q : e.type ≡ 77 = ((variable_T e).0 (rw h tt)).1.1.0 in rw q

variable_role : (e : Entry) → of_variable (role_of e) ≡ is_variable e
unfolding of_variable
variable_role e = go (is_variable e) refl
  where
    other : (s : Bool) → of_variable (cond s States Other) ≡ false
    other true = refl
    other false = refl

    go : (v : Bool) → is_variable e ≡ v → of_variable (role_of e) ≡ v
    go true h = rw (role_kind e h).1
    go false h = rw (role_other e h) (other (is_states e))

states_role : (e : Entry) → of_states (role_of e) ≡ is_states e
unfolding of_states
states_role e = go (is_variable e) refl
  where
    other : (s : Bool) → of_states (cond s States Other) ≡ s
    other true = refl
    other false = refl

    go : (v : Bool) → is_variable e ≡ v → of_states (role_of e) ≡ is_states e
    go true h = rw ((role_kind e h).1, not_both e h)
    go false h = rw (role_other e h) (other (is_states e))

-- a role tells the kind, and whether there is one
variable_injective : (k l : Kind) → Variable k ≡ Variable l → k ≡ l
variable_injective k l e = cc

pub variable_kinds : (e : Entry) (kind : Kind) → role_of e ≡ Variable kind → (is_variable e ≡ true) × (kind_number kind ≡ kind_of e)
unfolding of_variable
variable_kinds e kind q =
    let v : is_variable e ≡ true = sym (variable_role e) ∙ ap of_variable q in
    let k = role_kind e v in
    (v, ap kind_number (variable_injective kind k.0 (sym q ∙ k.1)) ∙ k.2)

pub other_kinds : (e : Entry) → ((kind : Kind) → role_of e ≡ Variable kind → ⊥) → is_variable e ≡ false
other_kinds e n = go (is_variable e) refl
  where
    go : (v : Bool) → is_variable e ≡ v → v ≡ false
    go true h = let k = role_kind e h in absurd (n k.0 k.1)
    go false h = refl

-- ---- the arrays of a directory

module _ (ds : List Entry) (i : ℕ) (l : i < length ds) where
  pub roles_at : get_or (sets_of ds).roles i Other ≡ role_of (at ds i)
  unfolding sets_of
  roles_at = padded-at role_of Other 128 ds i l

  pub counts-at : get_or (sets_of ds).counts i 0 ≡ count_of (at ds i)
  unfolding sets_of
  counts-at = padded-at count_of 0 128 ds i l

  pub sizes-at : get_or (sets_of ds).sizes i 0 ≡ extent (at ds i)
  unfolding sets_of
  sizes-at = padded-at extent 0 128 ds i l

  pub offsets-at : get_or (sets_of ds).offsets i 0 ≡ start (at ds i)
  unfolding sets_of
  offsets-at = padded-at start 0 128 ds i l

  is-variable : varies_at (sets_of ds).roles i ≡ is_variable_at ds i
  unfolding varies_at is_variable_at
  is-variable = rw roles_at (variable_role (at ds i))

  is-states : describes_at (sets_of ds).roles i ≡ is_states_at ds i
  unfolding describes_at is_states_at
  is-states = rw roles_at (states_role (at ds i))

module _ (ds : List Entry) where
  pub variable_found : some (is_variable_at ds) 0 (length ds) ≡ has_variable (sets_of ds).roles (length ds)
  unfolding has_variable
  variable_found = some_same (is_variable_at ds) (varies_at (sets_of ds).roles) 0 (length ds) (λ k l u. sym (is-variable ds k (omega arith)))

  -- the only entry that describes states
  pub only-is : only_states (sets_of ds).roles (length ds) ≡ cond (eqb (count (is_states_at ds) 0 (length ds)) 1) (states_entry ds) (length ds)
  unfolding only_states states_entry only
  only-is = only_same (describes_at (sets_of ds).roles) (is_states_at ds) (length ds) (λ k l. is-states ds k l)

-- ---- rule 16, by any tally

module _ (ds : List Entry) (t : Tally) where
  filled_at : (i : ℕ) → i < length ds → rule16_at ds (tally_from t) i ≡ need (not (unfilled_at (sets_of ds).roles (sets_of ds).counts (sets_of ds).sizes t.counts t.totals i)) 16 (get_or (sets_of ds).offsets i 0) i
  unfolding rule16_at unfilled_at unfilled tally_from is_filled of_kind
  filled_at i l = rw (roles_at ds i l, counts-at ds i l, sizes-at ds i l, offsets-at ds i l) (go (is_variable (at ds i)) refl)
    where
      e : Entry
      e = at ds i

      other : (s : Bool) → accepted ≡ need (not (unfilled (cond s States Other) e.count.magnitude (extent e) t.counts t.totals)) 16 (start e) i
      other true = refl
      other false = refl

      go : (v : Bool) → is_variable e ≡ v
          → where' v (need (eqb (of_kind t.counts (kind_of e)) e.count.magnitude && eqb (of_kind t.totals (kind_of e)) (extent e)) 16 (start e) i)
          ≡ need (not (unfilled (role_of e) e.count.magnitude (extent e) t.counts t.totals)) 16 (start e) i
      go false h = rw (role_other e h) (other (is_states e))
      go true h =
          let k = role_kind e h in
          rw (k.1, k.2) (ap (λ (x : Bool). need x 16 (start e) i) (sym (not-not (eqb (of_kind t.counts (kind_of e)) e.count.magnitude && eqb (of_kind t.totals (kind_of e)) (extent e)))))

  pub rule16-by : rule16 ds (tally_from t) ≡ rule16_by (sets_of ds) t.counts t.totals
  unfolding rule16 rule16_by sets_of
  rule16-by =
      first_found (unfilled_at (sets_of ds).roles (sets_of ds).counts (sets_of ds).sizes t.counts t.totals) (rule16_at ds (tally_from t)) 16 0 (length ds) (λ i. get_or (sets_of ds).offsets i 0) (λ j l u. filled_at j (omega arith))
      ∙ rw (zero-add (length ds))
