-- Rules 15 and 16 of entries that fit a product: by their arrays, by the states that are looked at, and by capped sums.
-- Assumes nothing.
use Prim.Native.Nat.{ℕ, zero, suc, ◌+◌, ◌*◌, ◌^◌, ◌≤◌, ◌<◌}
use mathlib.Core.Bool.{Bool, true, false, cond, ◌&&◌}
use mathlib.Core.List.{List, map}
use mathlib.Core.Logic.{◌⊎◌, inl, inr}
use mathlib.Core.Path.{◌≡◌, refl, sym, ap, ◌∙◌, subst}
use native.Mathlib.Omega.{arith}
use native.Mathlib.Nat.{mul_comm, mul-div_cancel_left}
use lib.Dec.{T, leb, ltb, eqb, leb→le}
use lib.IntN.{pos, neg_ℤ}
use lib.Signed.{le_z, lt_z, ◌≤ℤ◌}
use lib.ListN.{length, get_or}
use borrow.Author.Tests.{eqb-true, eqb-false, eq-eqb, ne_eqb, lt-ltb, le-ltb}
use Rattle.layout.specs.Text.{Number, whole}
use Rattle.layout.specs.Answer.{Answer, accepted, refused, need, where', ◌or_else◌}
use Rattle.layout.specs.Search.{some, count}
use Rattle.layout.specs.Entries.{Entry, eq_z, directory, at, start, extent, non_empty, is_data, is_variable, is_states, kind_of}
use Rattle.layout.specs.States.{State, Tally, is_states_at, states_entry, state_at, states_of, tally_of, of_kind}
use Rattle.layout.specs.Rules.{header_rules, state_rules, is_variable_at, states_fit, rule15, is_filled, rule16, rule16_at}
use Rattle.layout.specs.Faults.{Fixed, Variable, NumbersFit}
use Rattle.layout.proofs.Laws.{and_T, first_same, first-accepts_0, some-T, need-accepts, or_else_accepts, where_accepts}
use Rattle.layout.proofs.Tests.{is_true, is_false, non_empty-T, variable_T, states_T, counted_once}
use Rattle.layout.proofs.Sound.{length-directory, Headed, headed, no_count}
use Rattle.directory.specs.Numbers.{sets_of}
use Rattle.directory.specs.declared.Sets.{Sets}
use Rattle.states.specs.declared.Tally.{Tally as TallyRead}
use Rattle.states.specs.declared.StatesSpan.{StatesSpan}
use Rattle.states.specs.States.{cap, capped, states_from, tally_is, tally_from}
use Rattle.states.specs.Roles.{has_variable, only_states, rule16_by, described_by}
use Rattle.states.specs.Laid.{Fitting, Laid, are_looked_at, span_of}
use Rattle.states.proofs.Sums.{capped-eqb}
use Rattle.states.proofs.Laws.{states-of, of_kind-capped}
use Rattle.states.proofs.Roles.{above}
use Rattle.states.proofs.Arrays.{counts-at, sizes-at, offsets-at, variable_found, only-is, rule16-by}

-- ---- which entries fit

-- rules 1 to 14 leave entries that fit
pub fitting : (b : List ℕ) (n : ℕ) → Headed b n → Fitting (directory b) n
fitting b n h = record { few = rw (length-directory b) h.few; long = h.long; counts = h.counts; numbers = h.numbers; inside = λ i l f. (h.inside i l f).1 }

pub laid : (b : List ℕ) (n : ℕ) (sets : Sets) → header_rules b n ≡ accepted → sets ≡ sets_of (directory b) → Laid sets n
laid b n sets h q = record { entries = directory b; held = q; fits = fitting b n (headed b n h) }

-- ---- one entry

-- a number that is not negative is above zero where its magnitude is
above_zero : (n : Number) → pos 0 ≤ℤ whole n → lt_z (pos 0) (whole n) ≡ ltb 0 n.magnitude
unfolding whole
above_zero n h = go n.minus n.magnitude h.le
  where
    go : (s : Bool) (k : ℕ) → T (le_z (pos 0) (cond s (neg_ℤ (pos k)) (pos k))) → lt_z (pos 0) (cond s (neg_ℤ (pos k)) (pos k)) ≡ ltb 0 k
    go true zero h = refl
    go true (suc k) h = absurd h
    go false k h = refl

at_least-whole : (n : Number) → pos 1 ≤ℤ whole n → whole n ≡ pos n.magnitude
unfolding whole
at_least-whole n h = go n.minus n.magnitude h.le
  where
    go : (s : Bool) (k : ℕ) → T (le_z (pos 1) (cond s (neg_ℤ (pos k)) (pos k))) → cond s (neg_ℤ (pos k)) (pos k) ≡ pos k
    go true zero h = refl
    go true (suc k) h = absurd h
    go false k h = refl

at_least : (n : Number) → pos 1 ≤ℤ whole n → 1 ≤ n.magnitude
at_least n h = leb→le 1 n.magnitude (rw (at_least-whole n h) at h.le)

-- an entry that describes states
module _ (e : Entry) (fit : NumbersFit e) (is : T (is_states e)) where
  type_a : e.type ≡ 65
  type_a = ((states_T e).0 is).0

  states_filled : non_empty e ≡ ltb 0 (extent e)
  unfolding non_empty is_data extent
  states_filled = rw type_a (above_zero e.size (fit.1 (inr (inl type_a))).0.1.0)

  states_none : non_empty e ≡ false → e.count.magnitude ≡ 0
  states_none = no_count e fit (inl (rw type_a tt))

  -- where it is not empty, its DSR_SIZE is 1,387 exactly where so many times its NUM_DSR is its DS_SIZE
  module _ (full : non_empty e ≡ true) where
    fixed : (1 ≤ e.count.magnitude) × Fixed e
    fixed = let f = (non_empty-T e).0 (rw full tt) in let r = (fit.1 f.0).1.1 f.1 in (at_least e.count r.0, go r.1)
      where
        go : Fixed e ⊎ Variable e → Fixed e
        go (inl f) = f
        go (inr f) = absurd (omega (arith, type_a, f.1.1.0))

    same_size : e.count.magnitude * e.record_size.magnitude ≡ e.count.magnitude * 1387 → e.record_size.magnitude ≡ 1387
    same_size q = sym (mul-div_cancel_left e.record_size.magnitude fixed.0) ∙ rw q (mul-div_cancel_left 1387 fixed.0)

    size_decides : eq_z (whole e.record_size) (pos 1387) ≡ eqb (extent e) (1387 * e.count.magnitude)
    unfolding extent
    size_decides = rw (at_least-whole e.record_size fixed.1.0, ← fixed.1.1, mul_comm 1387 e.count.magnitude) (go (eqb e.record_size.magnitude 1387) refl)
      where
        go : (t : Bool) → eqb e.record_size.magnitude 1387 ≡ t → t ≡ eqb (e.count.magnitude * e.record_size.magnitude) (e.count.magnitude * 1387)
        go true q = sym (eq-eqb (e.count.magnitude * e.record_size.magnitude) (e.count.magnitude * 1387) (rw (eqb-true e.record_size.magnitude 1387 q)))
        go false q = sym (ne_eqb (e.count.magnitude * e.record_size.magnitude) (e.count.magnitude * 1387) (λ h. eqb-false e.record_size.magnitude 1387 q (same_size h)))

-- ---- the rules, of a list of entries and any tally

module _ (ds : List Entry) where
  -- there is a variable set; exactly one entry describes states; that entry, and its DSR_SIZE is 1,387
  abbrev asked : Bool
  asked = some (is_variable_at ds) 0 (length ds)

  abbrev once : Bool
  once = eqb (count (is_states_at ds) 0 (length ds)) 1

  abbrev e : Entry
  e = at ds (states_entry ds)

  abbrev sized : Bool
  sized = eq_z (whole e.record_size) (pos 1387)

  module _ (t : Tally) where
    no_set : (k : ℕ) → is_variable_at ds k ≡ false → rule16_at ds t k ≡ accepted
    unfolding rule16_at is_variable_at
    no_set k h = rw h

    not-asked : asked ≡ false → state_rules ds t ≡ accepted
    unfolding state_rules rule15 rule16
    not-asked h =
        rw h ((first-accepts_0 (rule16_at ds t) (length ds)).1 (λ k l. no_set k (is_false (is_variable_at ds k) (λ v. subst (λ (x : Bool). T x) h ((some-T (is_variable_at ds) (length ds)).1 (k, l, v))))))

    not_once : asked ≡ true → once ≡ false → state_rules ds t ≡ refused 15 0 128
    unfolding state_rules rule15
    not_once v h = rw (v, h)

    described : asked ≡ true → once ≡ true → state_rules ds t ≡ (states_fit ds t (states_entry ds) or_else rule16 ds t)
    unfolding state_rules rule15
    described v h = rw (v, h)

    not_sized : asked ≡ true → once ≡ true → non_empty e ≡ true → sized ≡ false → state_rules ds t ≡ refused 15 (start e) (states_entry ds)
    unfolding states_fit
    not_sized v h full q = described v h ∙ rw (full, q)

  -- ---- the states that are looked at

  look_at : once ≡ true → non_empty e ≡ true → sized ≡ true → are_looked_at ds ≡ true
  unfolding are_looked_at
  look_at h full q = rw (h, full, q)

  looked_at : are_looked_at ds ≡ true → (once ≡ true) × ((non_empty e ≡ true) × (sized ≡ true))
  unfolding are_looked_at
  looked_at h =
      let r = (and_T once (non_empty e && sized)).0 (rw h tt) in
      let q = (and_T (non_empty e) sized).0 r.1 in
      (is_true once r.0, (is_true (non_empty e) q.0, is_true sized q.1))

  span_none : are_looked_at ds ≡ false → record { place = 0; count = 0 } ≡ span_of ds
  unfolding span_of
  span_none h = rw h

  span_some : are_looked_at ds ≡ true → record { place = start e; count = e.count.magnitude } ≡ span_of ds
  unfolding span_of
  span_some h = rw h

  -- ---- of entries that fit

  module _ (n : ℕ) (fits : Fitting ds n) where
    capped_at : (t : Tally) (i : ℕ) → i < length ds → rule16_at ds (tally_from (tally_is t)) i ≡ rule16_at ds t i
    unfolding rule16_at tally_from tally_is is_filled
    capped_at t i l = go (is_variable (at ds i)) refl
      where
        f : Entry
        f = at ds i

        go : (v : Bool) → is_variable f ≡ v
            → where' v (need (eqb (of_kind (map capped t.counts) (kind_of f)) f.count.magnitude && eqb (of_kind (map capped t.totals) (kind_of f)) (extent f)) 16 (start f) i)
            ≡ where' v (need (eqb (of_kind t.counts (kind_of f)) f.count.magnitude && eqb (of_kind t.totals (kind_of f)) (extent f)) 16 (start f) i)
        go false h = refl
        go true h =
            let variable = (variable_T f).0 (rw h tt) in
            let records : f.count.magnitude < cap = omega (arith, fits.counts i l) in
            let bytes : extent f < cap = omega (arith, fits.inside i l (inl variable.1.1.0, variable.0), fits.long) in
            rw (of_kind-capped t.counts (kind_of f), of_kind-capped t.totals (kind_of f), capped-eqb (of_kind t.counts (kind_of f)) f.count.magnitude records, capped-eqb (of_kind t.totals (kind_of f)) (extent f) bytes)

    -- a tally whose sums are capped decides as the true one does
    pub capped_decides : (t : Tally) → state_rules ds (tally_from (tally_is t)) ≡ state_rules ds t
    unfolding state_rules rule15 rule16 states_fit tally_from tally_is
    capped_decides t = ap (λ (a : Answer). rule15 ds t or_else a) (first_same (rule16_at ds (tally_from (tally_is t))) (rule16_at ds t) 0 (length ds) (λ k l u. capped_at t k (omega arith)))

    module _ (h : once ≡ true) where
      only : (states_entry ds < length ds) × T (is_states e)
      unfolding states_entry is_states_at
      only = let o = counted_once (is_states_at ds) (length ds) (eqb-true (count (is_states_at ds) 0 (length ds)) 1 h) in (o.0, o.1.0)

      fit : NumbersFit e
      fit = fits.numbers (states_entry ds) only.0

      states_inside : non_empty e ≡ true → sized ≡ true → start e + 1387 * e.count.magnitude ≤ n
      states_inside full q =
          omega (arith, eqb-true (extent e) (1387 * e.count.magnitude) (sym (size_decides e fit only.1 full) ∙ q), fits.inside (states_entry ds) only.0 ((non_empty-T e).0 (rw full tt)))

    -- what is looked at lies in the product
    pub span_inside : (span_of ds).place + 1387 * (span_of ds).count ≤ n
    span_inside = go (are_looked_at ds) refl
      where
        go : (t : Bool) → are_looked_at ds ≡ t → (span_of ds).place + 1387 * (span_of ds).count ≤ n
        go false h = rw (← span_none h) (omega arith)
        go true h = let q = looked_at h in rw (← span_some h) (states_inside q.0 q.1.0 q.1.1)

    -- it is all states, where one entry describes them and its DSR_SIZE is right
    span_states : (b : List ℕ) → once ≡ true → (non_empty e ≡ true → sized ≡ true) → states_from b (span_of ds).place (span_of ds).count ≡ states_of b ds
    unfolding are_looked_at states_from
    span_states b h right = go (non_empty e) refl
      where
        go : (t : Bool) → non_empty e ≡ t → states_from b (span_of ds).place (span_of ds).count ≡ states_of b ds
        go false z = rw (← span_none (rw (h, z)), states-of b ds, states_none e (fit h) (only h).1 z)
        go true full = rw (← span_some (look_at h full (right full))) (sym (states-of b ds))

    -- so it is all states of a product that meets rule 15
    pub span_accepted : (b : List ℕ) (t : Tally) → asked ≡ true → rule15 ds t ≡ accepted → states_from b (span_of ds).place (span_of ds).count ≡ states_of b ds
    unfolding rule15 states_fit
    span_accepted b t v r =
        let one = (simp (where_accepts, or_else_accepts, need-accepts) at r) (rw v tt) in
        span_states b (is_true once one.0) (λ full. is_true sized (one.1 (rw full tt)).0)

    -- and else no tally is asked for
    pub span_decides : (b : List ℕ) → state_rules ds (tally_of (states_from b (span_of ds).place (span_of ds).count)) ≡ state_rules ds (tally_of (states_of b ds))
    span_decides b = by_asked asked refl
      where
        t : Tally
        t = tally_of (states_from b (span_of ds).place (span_of ds).count)

        u : Tally
        u = tally_of (states_of b ds)

        same : once ≡ true → (non_empty e ≡ true → sized ≡ true) → state_rules ds t ≡ state_rules ds u
        same h right = ap (λ (ss : List State). state_rules ds (tally_of ss)) (span_states b h right)

        by_sized : asked ≡ true → once ≡ true → (x y : Bool) → non_empty e ≡ x → sized ≡ y → state_rules ds t ≡ state_rules ds u
        by_sized v h x true p q = same h (λ full. q)
        by_sized v h true false p q = not_sized t v h p q ∙ sym (not_sized u v h p q)
        by_sized v h false false p q = same h (λ full. absurd (subst (λ (x : Bool). T x) (sym full ∙ p) tt))

        by_once : asked ≡ true → (x : Bool) → once ≡ x → state_rules ds t ≡ state_rules ds u
        by_once v true h = by_sized v h (non_empty e) sized refl refl
        by_once v false h = not_once t v h ∙ sym (not_once u v h)

        by_asked : (x : Bool) → asked ≡ x → state_rules ds t ≡ state_rules ds u
        by_asked true v = by_once v once refl
        by_asked false v = not-asked t v ∙ sym (not-asked u v)

    -- so the capped tally of what is looked at decides as that of all states does
    pub tally_decides : (b : List ℕ) (s : StatesSpan) (t : TallyRead) → s ≡ span_of ds → t ≡ tally_is (tally_of (states_from b s.place s.count)) → state_rules ds (tally_from t) ≡ state_rules ds (tally_of (states_of b ds))
    tally_decides b s t p q = rw (q, p) (capped_decides (tally_of (states_from b (span_of ds).place (span_of ds).count)) ∙ span_decides b)

-- ---- by the arrays

module _ (sets : Sets) (ds : List Entry) (n : ℕ) (held : sets ≡ sets_of ds) (fits : Fitting ds n) where
  held-entries : sets.entries ≡ length ds
  unfolding sets_of
  held-entries = ap (λ (s : Sets). s.entries) held

  pub most-entries : sets.entries ≤ 128
  most-entries = omega (arith, held-entries, fits.few)

  variable_held : asked ds ≡ has_variable sets.roles sets.entries
  unfolding sets_of
  variable_held = rw held (variable_found ds)

  only-held : only_states sets.roles sets.entries ≡ cond (once ds) (states_entry ds) (length ds)
  unfolding sets_of
  only-held = rw held (only-is ds)

  pub no_variable : (t : Tally) → has_variable sets.roles sets.entries ≡ false → state_rules ds t ≡ accepted
  no_variable t h = not-asked ds t (variable_held ∙ h)

  module _ (i : ℕ) (here : i ≡ only_states sets.roles sets.entries) where
    not-one : i ≡ sets.entries → once ds ≡ false
    not-one q = go (once ds) refl
      where
        go : (x : Bool) → once ds ≡ x → x ≡ false
        go false h = refl
        go true h = absurd (omega (arith, here, q, held-entries, rw h at only-held, (only ds n fits h).0))

    pub none_spanned : i ≡ sets.entries → record { place = 0; count = 0 } ≡ span_of ds
    unfolding are_looked_at
    none_spanned q = span_none ds (rw (not-one q))

    module _ (there : i ≡ sets.entries → ⊥) where
      one : once ds ≡ true
      one = go (once ds) refl
        where
          go : (x : Bool) → once ds ≡ x → x ≡ true
          go true h = refl
          go false h = absurd (there (here ∙ (rw h at only-held) ∙ sym held-entries))

      entry_is : i ≡ states_entry ds
      entry_is = here ∙ only-held ∙ rw one

      pub in_entries : i < sets.entries
      in_entries = omega (arith, entry_is, held-entries, (only ds n fits one).0)

      place_is_lem : get_or sets.offsets i 0 ≡ start (e ds)
      place_is_lem = rw (held, entry_is) (offsets-at ds (states_entry ds) (only ds n fits one).0)

      size_is : get_or sets.sizes i 0 ≡ extent (e ds)
      size_is = rw (held, entry_is) (sizes-at ds (states_entry ds) (only ds n fits one).0)

      count-is : get_or sets.counts i 0 ≡ (e ds).count.magnitude
      count-is = rw (held, entry_is) (counts-at ds (states_entry ds) (only ds n fits one).0)

      -- NUM_DSR and so many bytes fit a machine word
      pub count_fits : get_or sets.counts i 0 < 10 ^ 10
      count_fits = rw count-is (fits.counts (states_entry ds) (only ds n fits one).0)

      filled_is : non_empty (e ds) ≡ ltb 0 (get_or sets.sizes i 0)
      filled_is = states_filled (e ds) (fit ds n fits one) (only ds n fits one).1 ∙ rw size_is

      sized_is : non_empty (e ds) ≡ true → sized ds ≡ eqb (get_or sets.sizes i 0) (1387 * get_or sets.counts i 0)
      sized_is full = size_decides (e ds) (fit ds n fits one) (only ds n fits one).1 full ∙ rw (size_is, count-is)

      pub empty_spanned : get_or sets.sizes i 0 ≡ 0 → record { place = 0; count = 0 } ≡ span_of ds
      unfolding are_looked_at
      empty_spanned z = span_none ds (rw (one, filled_is ∙ le-ltb 0 (get_or sets.sizes i 0) (omega (arith, z))))

      module _ (some_bytes : get_or sets.sizes i 0 ≡ 0 → ⊥) where
        full : non_empty (e ds) ≡ true
        full = filled_is ∙ lt-ltb 0 (get_or sets.sizes i 0) (above (get_or sets.sizes i 0) some_bytes)

        pub other_spanned : (get_or sets.sizes i 0 ≡ 1387 * get_or sets.counts i 0 → ⊥) → record { place = 0; count = 0 } ≡ span_of ds
        unfolding are_looked_at
        other_spanned h = span_none ds (rw (one, full, sized_is full ∙ ne_eqb (get_or sets.sizes i 0) (1387 * get_or sets.counts i 0) h))

        module _ (right : get_or sets.sizes i 0 ≡ 1387 * get_or sets.counts i 0) where
          is_sized : sized ds ≡ true
          is_sized = sized_is full ∙ eq-eqb (get_or sets.sizes i 0) (1387 * get_or sets.counts i 0) right

          pub all_spanned : record { place = get_or sets.offsets i 0; count = get_or sets.counts i 0 } ≡ span_of ds
          all_spanned = rw (place_is_lem, count-is) (span_some ds (look_at ds one full is_sized))

          pub states-fit : get_or sets.offsets i 0 + 1387 * get_or sets.counts i 0 ≤ 2147483647
          states-fit = rw (place_is_lem, count-is) (omega (arith, states_inside ds n fits one full is_sized, fits.long))

      described-by : (t : TallyRead) → described_by sets i t ≡ (states_fit ds (tally_from t) (states_entry ds) or_else rule16 ds (tally_from t))
      unfolding described_by states_fit state_at tally_from
      described-by t = λ j. fifteen j or_else sixteen j
        where
          go : (x : Bool) → non_empty (e ds) ≡ x
              → where' x (need (eqb (get_or sets.sizes i 0) (1387 * get_or sets.counts i 0)) 15 (get_or sets.offsets i 0) i or_else need (leb (get_or sets.counts i 0) t.bad) 15 (get_or sets.offsets i 0 + 1387 * t.bad) i)
              ≡ where' x (need (sized ds) 15 (start (e ds)) (states_entry ds) or_else need (leb (e ds).count.magnitude t.bad) 15 (start (e ds) + 1387 * t.bad) (states_entry ds))
          go false h = refl
          go true h = rw (← sized_is h, place_is_lem, count-is, entry_is)

          fifteen : where' (ltb 0 (get_or sets.sizes i 0)) (need (eqb (get_or sets.sizes i 0) (1387 * get_or sets.counts i 0)) 15 (get_or sets.offsets i 0) i or_else need (leb (get_or sets.counts i 0) t.bad) 15 (get_or sets.offsets i 0 + 1387 * t.bad) i) ≡ states_fit ds (tally_from t) (states_entry ds)
          fifteen = rw (← filled_is) (go (non_empty (e ds)) refl)

          sixteen : rule16_by sets t.counts t.totals ≡ rule16 ds (tally_from t)
          sixteen = rw held (sym (rule16-by ds t))

    -- where there is a variable set, they are judged by the entry that describes the states
    module _ (t : TallyRead) (v : has_variable sets.roles sets.entries ≡ true) where
      is-asked : asked ds ≡ true
      is-asked = variable_held ∙ v

      pub none_described : i ≡ sets.entries → state_rules ds (tally_from t) ≡ refused 15 0 128
      none_described q = not_once ds (tally_from t) is-asked (not-one q)

      pub one_described : (i ≡ sets.entries → ⊥) → described_by sets i t ≡ state_rules ds (tally_from t)
      one_described there = described-by there t ∙ sym (described ds (tally_from t) is-asked (one there))
