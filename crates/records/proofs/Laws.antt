-- Records of equal and of unequal lengths, by the arrays of a directory.
-- Assumes nothing.
use Rattle.std.specs.Prelude.{Option, Some, None, Result, Ok, Err}
use Prim.Native.Nat.{ℕ, zero, suc, ◌+◌, ◌*◌, ◌/◌, ◌^◌, ◌≤◌, ◌<◌}
use mathlib.Core.Bool.{Bool, true, false, cond}
use mathlib.Core.List.{List, ◌∷◌}
use mathlib.Core.Logic.{◌⊎◌, inl, inr}
use mathlib.Core.Path.{◌≡◌, refl, sym, ap, ◌∙◌, subst}
use native.Mathlib.Omega.{arith}
use native.Mathlib.Nat.{mul-div_cancel_left, mul-le-mul_right, le_of_suc-le-suc, not-suc-le-zero}
use lib.Dec.{T, ltb}
use lib.ListN.{length, take, get_or, replicate, length-replicate, get_or-replicate}
use borrow.Author.Tests.{lt-ltb, le-ltb}
use Rattle.layout.specs.Search.{some, sum}
use Rattle.layout.specs.Entries.{Entry, directory, at, start, extent, non_empty, is_variable, kind_of}
use Rattle.layout.specs.States.{State, states_of, tally_of}
use Rattle.layout.specs.Records.{variable_lengths, lengths, record_at, record_length, record_refusal, record_place}
use Rattle.layout.specs.Rules.{is_variable_at}
use Rattle.layout.specs.Faults.{NonEmpty, Fixed, Variable}
use Rattle.layout.specs.Answers.{reply_is, place_is}
use Rattle.layout.specs.declared.Refusal.{Refusal}
use Rattle.layout.specs.declared.Span.{Span}
use Rattle.layout.proofs.Laws.{some-T}
use Rattle.layout.proofs.Tests.{is_true, non_empty-T, variable_T}
use Rattle.layout.proofs.Faults.{sum-replicate}
use Rattle.layout.proofs.Sound.{Sound, sound, no_count, states_accept}
use Rattle.dsd.specs.declared.Kind.{Kind}
use Rattle.dsd.specs.declared.Role.TheVariants.{Other, Variable as VariableRole}
use Rattle.dsd.specs.Held.{kind_number, role_of}
use Rattle.directory.specs.Numbers.{sets_of}
use Rattle.directory.specs.declared.Sets.{Sets}
use Rattle.states.specs.declared.Found.{Found}
use Rattle.states.specs.declared.StatesSpan.{StatesSpan}
use Rattle.states.specs.States.{cap, states_from, found}
use Rattle.states.specs.Laid.{Fitting, Laid, Every, span_of}
use Rattle.states.proofs.Laws.{sum-take, found_exact}
use Rattle.states.proofs.Arrays.{roles_at, counts-at, sizes-at, offsets-at, variable_kinds, other_kinds}
use Rattle.states.proofs.Fits.{fitting, span_inside, span_accepted}
use Rattle.records.specs.Open.{Open, place_in}

take-replicate : (n j r : ℕ) → j ≤ n → take j (replicate n r) ≡ replicate j r
take-replicate n zero r h = refl
take-replicate zero (suc j) r h = absurd (not-suc-le-zero h)
take-replicate (suc n) (suc j) r h = ap (λ (l : List ℕ). r ∷ l) (take-replicate n j r (le_of_suc-le-suc h))

full_set : (e : Entry) → non_empty e ≡ true → NonEmpty e
full_set e h = (non_empty-T e).0 (rw h tt)

module _ (b : List ℕ) (sets : Sets) (opened : Open b sets) where
  abbrev ds : List Entry
  ds = directory b

  abbrev ss : List State
  ss = states_of b ds

  whole : Sound b
  whole = sound b opened.accepts

  fits : Fitting ds (length b)
  fits = fitting b (length b) whole.headed

  pub laid : Laid sets (length b)
  laid = record { entries = ds; held = opened.held; fits = fits }

  pub entries-held : sets.entries ≡ length ds
  unfolding sets_of
  entries-held = ap (λ (s : Sets). s.entries) opened.held

  pub entries-few : sets.entries ≤ 128
  entries-few = omega (arith, entries-held, fits.few)

  module _ (i : ℕ) (inside : i < sets.entries) where
    abbrev e : Entry
    e = at ds i

    l : i < length ds
    l = omega (arith, entries-held)

    pub count-is : get_or sets.counts i 0 ≡ e.count.magnitude
    count-is = rw opened.held (counts-at ds i l)

    size_is : get_or sets.sizes i 0 ≡ extent e
    size_is = rw opened.held (sizes-at ds i l)

    pub place_is_lem : get_or sets.offsets i 0 ≡ start e
    place_is_lem = rw opened.held (offsets-at ds i l)

    pub few-records : get_or sets.counts i 0 < 10 ^ 10
    few-records = rw count-is (whole.headed.counts i l)

    -- an entry with a record is a set of one byte or more
    filled : 0 < e.count.magnitude → non_empty e ≡ true
    filled h = go (non_empty e) refl
      where
        go : (t : Bool) → non_empty e ≡ t → t ≡ true
        go true q = refl
        go false q = absurd (omega (arith, no_count e (whole.headed.numbers i l) (whole.headed.typed i l) q))

    module _ (equal : is_variable e ≡ false) where
      pub equal_lengths : lengths ss e ≡ replicate e.count.magnitude e.record_size.magnitude
      unfolding lengths
      equal_lengths = rw equal

      pub no_record : (j : ℕ) → get_or sets.counts i 0 ≤ j → (t : Result Span Refusal) → t ≡ Err (record { number = 18; place = 0; entry = i }) → place_is t ≡ place_in b i j
      unfolding reply_is place_in
      no_record j h t q = rw q (sym (rw (equal_lengths, length-replicate e.count.magnitude e.record_size.magnitude, le-ltb j e.count.magnitude (omega (arith, count-is)))))

      module _ (j : ℕ) (there : j < get_or sets.counts i 0) where
        in_count : j < e.count.magnitude
        in_count = omega (arith, count-is)

        full : non_empty e ≡ true
        full = filled (omega (arith, in_count))

        fixed : e.count.magnitude * e.record_size.magnitude ≡ extent e
        unfolding extent
        fixed = let f = full_set e full in go (((whole.headed.numbers i l).1 f.0).1.1 f.1).1
          where
            go : Fixed e ⊎ Variable e → e.count.magnitude * e.record_size.magnitude ≡ e.size.magnitude
            go (inl f) = f.1
            go (inr f) = absurd (subst (λ (t : Bool). T t) equal ((variable_T e).1 f))

        pub length-is : get_or sets.sizes i 0 / get_or sets.counts i 0 ≡ e.record_size.magnitude
        length-is = rw (size_is, count-is, ← fixed) (mul-div_cancel_left e.record_size.magnitude (omega (arith, in_count)))

        -- they lie in the product
        pub set-inside : get_or sets.offsets i 0 + get_or sets.counts i 0 * (get_or sets.sizes i 0 / get_or sets.counts i 0) ≤ length b
        set-inside = rw (length-is, place_is_lem, count-is) (omega (arith, fixed, (whole.headed.inside i l (full_set e full)).1))

        -- the records before one, and itself, lie in the set
        pub record-inside : get_or sets.offsets i 0 + j * (get_or sets.sizes i 0 / get_or sets.counts i 0) ≤ 2147483647
        record-inside =
            rw (length-is, place_is_lem)
            (omega (arith, mul-le-mul_right e.record_size.magnitude in_count, fixed, (whole.headed.inside i l (full_set e full)).1, whole.headed.long))

        pub equal_record : place_is (Ok (record { place = get_or sets.offsets i 0 + j * (get_or sets.sizes i 0 / get_or sets.counts i 0); length = get_or sets.sizes i 0 / get_or sets.counts i 0 })) ≡ place_in b i j
        unfolding reply_is place_in record_at record_length
        equal_record =
            let m = in_count in
            sym (rw (
              equal_lengths,
              length-replicate e.count.magnitude e.record_size.magnitude,
              lt-ltb j e.count.magnitude m,
              take-replicate e.count.magnitude j e.record_size.magnitude (omega arith),
              sum-replicate j e.record_size.magnitude,
              get_or-replicate e.count.magnitude j e.record_size.magnitude 0 m,
              length-is,
              place_is_lem,
            ))

-- ---- variable sets

-- what a search that found the record, or nothing, says
Says : List ℕ → ℕ → Option Found → Type 0
Says ns j (Some f) = (ltb j (length ns) ≡ true) × (f.before ≡ sum (take j ns)) × (f.length ≡ get_or ns j 0)
Says ns j None = ltb j (length ns) ≡ false

says : (ns : List ℕ) (j : ℕ) → sum ns ≤ cap → (f : Option Found) → f ≡ found ns j → Says ns j f
unfolding Says
says ns j h f q = rw (q ∙ found_exact ns j h) (go (ltb j (length ns)) refl)
  where
    go : (t : Bool) → ltb j (length ns) ≡ t → Says ns j (cond t (Some (record { before = sum (take j ns); length = get_or ns j 0 })) None)
    go true q = (q, refl, refl)
    go false q = q

module _ (b : List ℕ) (sets : Sets) (opened : Open b sets) (i : ℕ) (inside : i < sets.entries) (unequal : is_variable (at (directory b) i) ≡ true) where
  abbrev pub ns : List ℕ
  ns = variable_lengths (states_of b (directory b)) (kind_of (at (directory b) i))

  in_directory : i < length (directory b)
  in_directory = omega (arith, entries-held b sets opened)

  variable : Variable (at (directory b) i)
  variable = (variable_T (at (directory b) i)).0 (rw unequal tt)

  pub unequal_lengths : lengths (states_of b (directory b)) (at (directory b) i) ≡ ns
  unfolding lengths
  unequal_lengths = rw unequal

  fills : (length ns ≡ (at (directory b) i).count.magnitude) × (sum ns ≡ extent (at (directory b) i))
  fills = (whole b sets opened).filled i in_directory variable

  has_bytes : NonEmpty (at (directory b) i)
  has_bytes = (inl variable.1.1.0, variable.0)

  pub in_product : start (at (directory b) i) + sum ns ≤ length b
  in_product = omega (arith, fills.1, ((whole b sets opened).headed.inside i in_directory has_bytes).1)

  pub many : length ns < 10 ^ 10
  many = omega (arith, fills.0, count-is b sets opened i inside, few-records b sets opened i inside)

  -- rule 15 holds, so what is looked at is all states
  same_states : states_from b (span_of (directory b)).place (span_of (directory b)).count ≡ states_of b (directory b)
  unfolding is_variable_at
  same_states =
      let there = (some-T (is_variable_at (directory b)) (length (directory b))).1 (i, in_directory, rw unequal tt) in
      span_accepted (directory b) (length b) (fits b sets opened) b (tally_of (states_of b (directory b))) (is_true (some (is_variable_at (directory b)) 0 (length (directory b))) there) (states_accept b opened.accepts).0

  module _ (s : StatesSpan) (spanned : Every sets (λ ds. s ≡ span_of ds)) where
    here : s ≡ span_of (directory b)
    here = spanned (directory b) (length b) opened.held (fits b sets opened)

    pub states_inside : s.place + 1387 * s.count ≤ length b
    states_inside = rw here (span_inside (directory b) (length b) (fits b sets opened))

    module _ (j kind : ℕ) (its-kind : kind ≡ kind_of (at (directory b) i)) where
      pub same_lengths : variable_lengths (states_from b s.place s.count) kind ≡ ns
      same_lengths = rw (here, same_states, its-kind)

      small-sum : sum ns ≤ cap
      small-sum = omega (arith, in_product, (whole b sets opened).headed.long)

      module _ (r : Option Found) (searched : r ≡ found (variable_lengths (states_from b s.place s.count) kind) j) where
        what : Says ns j r
        what = says ns j small-sum r (rw same_lengths at searched)

        module _ (f : Found) (there : r ≡ Some f) where
          it : (ltb j (length ns) ≡ true) × (f.before ≡ sum (take j ns)) × (f.length ≡ get_or ns j 0)
          unfolding Says
          it = subst (Says ns j) there what

          pub unequal_record : place_is (Ok (record { place = get_or sets.offsets i 0 + f.before; length = f.length })) ≡ place_in b i j
          unfolding reply_is place_in record_at record_length
          unequal_record = sym (rw (unequal_lengths, it.0, place_is_lem b sets opened i inside, it.1, it.2))

          pub unequal_inside : get_or sets.offsets i 0 + f.before ≤ 2147483647
          unequal_inside = omega (arith, place_is_lem b sets opened i inside, it.1, sum-take j ns, in_product, (whole b sets opened).headed.long)

        pub no_unequal : r ≡ None → (t : Result Span Refusal) → t ≡ Err (record { number = 18; place = 0; entry = i }) → place_is t ≡ place_in b i j
        unfolding Says reply_is place_in
        no_unequal none t q = rw q (sym (rw (unequal_lengths, subst (Says ns j) none what)))

-- ---- which kind of set an entry is, by its role

module _ (b : List ℕ) (sets : Sets) (opened : Open b sets) (i : ℕ) (inside : i < sets.entries) where
  role_is : get_or sets.roles i Other ≡ role_of (at (directory b) i)
  role_is = rw opened.held (roles_at (directory b) i (omega (arith, entries-held b sets opened)))

  pub role_varies : (kind : Kind) → get_or sets.roles i Other ≡ VariableRole kind → (is_variable (at (directory b) i) ≡ true) × (kind_number kind ≡ kind_of (at (directory b) i))
  role_varies kind h = variable_kinds (at (directory b) i) kind (sym role_is ∙ h)

  pub role_fixed : ((kind : Kind) → get_or sets.roles i Other ≡ VariableRole kind → ⊥) → is_variable (at (directory b) i) ≡ false
  role_fixed n = other_kinds (at (directory b) i) (λ kind h. n kind (role_is ∙ h))

  -- an entry of the directory: refusal 18, or the record
  pub in_entries : (j : ℕ) → record_place b i j ≡ place_in b i j
  unfolding record_place record_refusal place_in
  in_entries j = rw (opened.accepts, lt-ltb i (length (directory b)) (omega (arith, entries-held b sets opened)))

pub past_entries : (b : List ℕ) (sets : Sets) → Open b sets → (i j : ℕ) → sets.entries ≤ i
    → (t : Result Span Refusal) → t ≡ Err (record { number = 17; place = 0; entry = 128 }) → place_is t ≡ record_place b i j
unfolding reply_is record_place record_refusal
past_entries b sets opened i j h t e = rw e (sym (rw (opened.accepts, le-ltb i (length (directory b)) (omega (arith, entries-held b sets opened)))))

-- what the answers need of all this, where they are not given
pub ruleset told = (entries-few, no_record, equal_record, record-inside, unequal_record, unequal_inside, role_fixed, in_entries, past_entries)
