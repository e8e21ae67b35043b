-- What an accepted product's directory has, for the theorems above it: numbers that fit, sets that lie inside, apart, and cover all that follows
-- the headers, and variable sets that their states fill.
-- Assumes nothing.
use Prim.Native.Nat.{ℕ, zero, suc, ◌+◌, ◌*◌, ◌^◌, ◌≤◌, ◌<◌}
use mathlib.Core.Bool.{Bool, true, false, cond, ◌||◌}
use mathlib.Core.Logic.{inl, inr}
use mathlib.Core.List.{List, [], map}
use mathlib.Core.Path.{◌≡◌, refl, sym, ap, ◌∙◌, subst}
use native.Mathlib.Omega.{arith}
use native.Mathlib.Nat.{zero-add, le_of_suc-le-suc, not-suc-le-zero}
use lib.Dec.{T, eqb, eqb→eq, leb→le, lt→ltb}
use lib.IntN.{ℤ, pos, negsuc, neg_ℤ, pos-ne-negsuc}
use lib.Signed.{lt_z, le_z, ◌≤ℤ◌}
use lib.ListN.{length, get_or, replicate, length-map}
use Rattle.layout.specs.Bytes.{bytes, member}
use Rattle.layout.specs.Text.{Number, whole, layout}
use Rattle.layout.specs.Answer.{accepted}
use Rattle.layout.specs.Search.{upto, laid_out}
use Rattle.layout.specs.Entries.{Entry, largest_signed, tot_size, sph_size, num_dsd, num_data_sets, headers_end, entries, dsds_at, dsd_at, dsd_bytes, entry_of, entry_from, entries_from, entry_at, directory, at, is_data, non_empty, start, extent, is_variable}
use Rattle.layout.specs.States.{State, Tally, states_of, tally_of}
use Rattle.layout.specs.Records.{lengths}
use Rattle.layout.specs.Faults.{NonEmpty, Byte, NumbersFit, Variable}
use Rattle.layout.specs.Rules.{rule1, rule2, rule3, rule4, rule5, rule6, sph_fits, dsds_fit, rule7, lines_of, rule8, rule8_at, rule9, rule9_at, rule10, rule10_at, data_sets, rule11, rule12, rule12_at, set_inside, rule13, rule13_at, shares_at, rule14, rule14_at, holds_at, rule15, rule16, rule16_at, rules1to6, rules7to14, header_rules, state_rules, verdict_from, verdict}
use Rattle.layout.proofs.Laws.{and_T, imp-T, not-T', leb-T, eqb-T, le_z_T, lt_z_T, eq_z-T, need-accepts, or_else_accepts, where_accepts, first-accepts, first-accepts_0, some-T}
use Rattle.layout.proofs.Types.{Typed, laid_out_typed}
use Rattle.layout.proofs.Widths.{count_small}
use Rattle.layout.proofs.Tests.{data_T, non_empty-T, holds-T, shares-T, numbers-T, variable_T}
use Rattle.layout.proofs.Faults.{FilledBy, filled-T}

ruleset tests = (need-accepts, or_else_accepts, where_accepts, first-accepts_0, some-T, and_T, imp-T, not-T', leb-T, eqb-T, eq_z-T, le_z_T, lt_z_T)

-- ---- the directory

length-upto : (i n : ℕ) → length (upto i n) ≡ n
length-upto i zero = refl
length-upto i (suc n) = ap suc (length-upto (suc i) n)

pub length-map-upto : {A : Type 0} (f : ℕ → A) (i n : ℕ) → length (map f (upto i n)) ≡ n
length-map-upto f i n = length-map (upto i n) f ∙ length-upto i n

pub get_or-map-upto : {A : Type 0} (f : ℕ → A) (d : A) (i n k : ℕ) → k < n → get_or (map f (upto i n)) k d ≡ f (i + k)
get_or-map-upto f d i zero k h = absurd (not-suc-le-zero h)
get_or-map-upto f d i (suc n) zero h = let q : i ≡ i + 0 = omega arith in ap f q
get_or-map-upto f d i (suc n) (suc k) h = get_or-map-upto f d (suc i) n k (le_of_suc-le-suc h) ∙ (let q : suc i + k ≡ i + suc k = omega arith in ap f q)

module _ (b : List ℕ) (from n : ℕ) where
  pub length-entries : length (entries_from b from n) ≡ n
  unfolding entries_from
  length-entries = length-map-upto (entry_from b from) 0 n

  pub at-entries : (i : ℕ) → i < n → at (entries_from b from n) i ≡ entry_from b from i
  unfolding entries_from at
  at-entries i h = get_or-map-upto (entry_from b from) (entry_of (replicate 280 32)) 0 n i h ∙ ap (entry_from b from) (zero-add i)

pub directory_from : (b : List ℕ) (from n : ℕ) → from ≡ dsds_at b → n ≡ entries b → entries_from b from n ≡ directory b
unfolding directory
directory_from b from n f e = rw (f, e)

pub length-directory : (b : List ℕ) → length (directory b) ≡ entries b
unfolding directory
length-directory b = length-entries b (dsds_at b) (entries b)

pub at-directory : (b : List ℕ) (i : ℕ) → i < entries b → at (directory b) i ≡ entry_at b i
unfolding directory entry_at
at-directory b i h = at-entries b (dsds_at b) (entries b) i h

pub entry-at : (b : List ℕ) (i : ℕ) → entry_at b i ≡ entry_of (dsd_bytes b i)
unfolding entry_at entry_from dsd_bytes dsd_at
entry-at b i = refl

-- ---- what acceptance gives

-- rules 1 to 14 hold of the bytes at hand and a length, one by one
pub record Keeps (b : List ℕ) (n : ℕ) : Type 0 where
  pub one : rule1 b n ≡ accepted
  pub two : rule2 b n ≡ accepted
  pub three : rule3 b n ≡ accepted
  pub four : rule4 b n ≡ accepted
  pub five : rule5 b n ≡ accepted
  pub six : rule6 b n ≡ accepted
  pub seven : rule7 b n ≡ accepted
  pub eight : rule8 b n ≡ accepted
  pub nine : rule9 b n ≡ accepted
  pub ten : rule10 b n ≡ accepted
  pub eleven : rule11 b n ≡ accepted
  pub twelve : rule12 b n ≡ accepted
  pub thirteen : rule13 b n ≡ accepted
  pub fourteen : rule14 b n ≡ accepted

-- what they give of the directory
pub record Headed (b : List ℕ) (n : ℕ) : Type 0 where
  pub main : 1247 ≤ n
  pub long : n ≤ 2147483647
  pub total : (tot_size b).magnitude ≤ largest_signed
  pub headers : headers_end b ≤ n
  pub few : entries b ≤ 128
  pub dsds : 280 * entries b ≤ (sph_size b).magnitude
  pub typed : (i : ℕ) → i < length (directory b) → Typed (at (directory b) i)
  pub counts : (i : ℕ) → i < length (directory b) → (at (directory b) i).count.magnitude < 10 ^ 10  -- NUM_DSR has ten digits
  pub held : (i : ℕ) → i < length (directory b) → (start (at (directory b) i) ≤ largest_signed) × (extent (at (directory b) i) ≤ largest_signed)
  pub numbers : (i : ℕ) → i < length (directory b) → NumbersFit (at (directory b) i)
  pub counted : whole (num_data_sets b) ≡ pos (data_sets (directory b))
  pub inside : (i : ℕ) → i < length (directory b) → NonEmpty (at (directory b) i) → (headers_end b ≤ start (at (directory b) i)) × (start (at (directory b) i) + extent (at (directory b) i) ≤ n)
  pub apart : (i : ℕ) → i < length (directory b) → ((j : ℕ) × (j < i) × ((p : ℕ) × (Byte (at (directory b) i) p × Byte (at (directory b) j) p))) → ⊥
  pub covered : (p : ℕ) → headers_end b ≤ p → p < n → (i : ℕ) × (i < length (directory b)) × Byte (at (directory b) i) p

-- what all sixteen give: the states fill the variable sets too
pub record Sound (b : List ℕ) : Type 0 where
  pub headed : Headed b (length b)
  pub filled : (i : ℕ) → i < length (directory b) → Variable (at (directory b) i) → FilledBy b (directory b) (at (directory b) i)

-- ---- entries without records

-- a number that is not negative is its magnitude
pub magnitude-is : (n : Number) (m : ℕ) → whole n ≡ pos m → n.magnitude ≡ m
unfolding whole
magnitude-is n m h = go n.minus n.magnitude h
  where
    go : (s : Bool) (k : ℕ) → cond s (neg_ℤ (pos k)) (pos k) ≡ pos m → k ≡ m
    go true zero h = cc
    go true (suc k) h = absurd (pos-ne-negsuc m k (sym h))
    go false k h = cc

-- a number from 0 to m has such a magnitude
pub within-magnitude : (n : Number) (m : ℕ) → pos 0 ≤ℤ whole n → whole n ≤ℤ pos m → n.magnitude ≤ m
unfolding whole
within-magnitude n m l u = go n.minus n.magnitude l.le u.le
  where
    go : (s : Bool) (k : ℕ) → T (le_z (pos 0) (cond s (neg_ℤ (pos k)) (pos k))) → T (le_z (cond s (neg_ℤ (pos k)) (pos k)) (pos m)) → k ≤ m
    go true zero l u = omega arith
    go true (suc k) l u = absurd l
    go false k l u = leb→le k m u

-- neither negative nor above zero
not_above : (z : ℤ) → pos 0 ≤ℤ z → lt_z (pos 0) z ≡ false → z ≡ pos 0
not_above (pos zero) l h = refl
not_above (pos (suc n)) l h = absurd (subst (λ (t : Bool). T t) h (lt→ltb 0 (suc n) (omega arith)))
not_above (negsuc n) l h = absurd l.le

pub last_of_four : (t u v w : Bool) → T (t || (u || (v || (w || false)))) → (t || (u || (v || false))) ≡ false → T w
last_of_four true u v w h e = absurd (subst (λ (t : Bool). T t) e tt)
last_of_four false true v w h e = absurd (subst (λ (t : Bool). T t) e tt)
last_of_four false false true w h e = absurd (subst (λ (t : Bool). T t) e tt)
last_of_four false false false true h e = tt
last_of_four false false false false h e = absurd h

is-reference : (e : Entry) → T (member e.type (bytes "MAGR")) → is_data e ≡ false → e.type ≡ 82
unfolding is_data
is-reference e m x = eqb→eq e.type 82 (last_of_four (eqb e.type 77) (eqb e.type 65) (eqb e.type 71) (eqb e.type 82) m x)

m_data : (e : Entry) → e.type ≡ 77 → is_data e ≡ true
unfolding is_data
m_data e h = rw h

module _ (e : Entry) (fit : NumbersFit e) (typed : Typed e) (empty : non_empty e ≡ false) where
  pub no_count : e.count.magnitude ≡ 0
  unfolding non_empty
  no_count = go typed (is_data e) refl
    where
      go : Typed e → (d : Bool) → is_data e ≡ d → e.count.magnitude ≡ 0
      go (inr s) d x = s.1.0
      go (inl m) true x =
          let d = (data_T e).0 (rw x tt) in
          magnitude-is e.count 0 ((fit.1 d).1.0 (not_above (whole e.size) (fit.1 d).0.1.0 (rw x at empty)))
      go (inl m) false x = magnitude-is e.count 0 (fit.0 (is-reference e m x)).1.1.0

  not_variable : is_variable e ≡ false
  unfolding non_empty
  not_variable = go (is_variable e) refl
    where
      go : (v : Bool) → is_variable e ≡ v → v ≡ false
      go false x = refl
      go true x =
          let r = (variable_T e).0 (rw x tt) in
          absurd (subst (λ (t : Bool). T t) (rw (m_data e r.1.1.0) at empty) r.0.lt)

  -- an entry with no byte has no record: R, a spare, an empty set
  pub no_records : (ss : List State) → lengths ss e ≡ []
  unfolding lengths
  no_records ss = rw (not_variable, no_count)

-- rules 1 to 14 hold
module _ (b : List ℕ) (n : ℕ) (h : header_rules b n ≡ accepted) where
  pub keeps : Keeps b n
  unfolding header_rules rules1to6 rules7to14
  keeps =
      let r = simp or_else_accepts at h in
      let r4 = r.0.1.1.1 in
      let r8 = r.1.1 in
      let r11 = r8.1.1.1 in
      record {
        one = r.0.0;
        two = r.0.1.0;
        three = r.0.1.1.0;
        four = r4.0;
        five = r4.1.0;
        six = r4.1.1;
        seven = r.1.0;
        eight = r8.0;
        nine = r8.1.0;
        ten = r8.1.1.0;
        eleven = r11.0;
        twelve = r11.1.0;
        thirteen = r11.1.1.0;
        fourteen = r11.1.1.1;
      }

  rule1_sound : 1247 ≤ n
  unfolding rule1
  rule1_sound = simp tests at keeps.one

  rule2_sound : n ≤ 2147483647
  unfolding rule2
  rule2_sound = simp tests at keeps.two

  rule4_sound : (tot_size b).magnitude ≤ largest_signed
  unfolding rule4
  rule4_sound = simp tests at keeps.four

  rule6_sound : (headers_end b ≤ n) × (280 * entries b ≤ (sph_size b).magnitude)
  unfolding rule6 sph_fits dsds_fit
  rule6_sound = let r = simp tests at keeps.six in (r.0.1, r.1.0.1)

  entries_sound : entries b ≤ 128
  unfolding rule6 sph_fits dsds_fit entries
  entries_sound = let r = simp tests at keeps.six in within-magnitude (num_dsd b) 128 r.1.0.0.0 r.1.0.0.1

  -- what a rule says of every DSD, it says of every entry
  of_entries : (P : Entry → Type 0) → ((i : ℕ) → i < entries b → P (entry_at b i)) → (i : ℕ) → i < length (directory b) → P (at (directory b) i)
  of_entries P f i l = let m : i < entries b = omega (arith, length-directory b) in rw (at-directory b i m) (f i m)

  laid_out_lem : (i : ℕ) → i < entries b → laid_out 8 i (dsd_at b i) (layout (lines_of (dsd_bytes b i))) (dsd_bytes b i) ≡ accepted
  unfolding rule8 rule8_at
  laid_out_lem = simp first-accepts_0 at keeps.eight

  typed_sound : (i : ℕ) → i < entries b → Typed (entry_at b i)
  typed_sound i l = rw (entry-at b i) (laid_out_typed (dsd_bytes b i) 8 i (dsd_at b i) (laid_out_lem i l))

  counts_sound : (i : ℕ) → i < entries b → (entry_at b i).count.magnitude < 10 ^ 10
  counts_sound i l = rw (entry-at b i) (count_small (dsd_bytes b i) 8 i (dsd_at b i) (laid_out_lem i l))

  rule9_sound : (i : ℕ) → i < entries b → (start (entry_at b i) ≤ largest_signed) × (extent (entry_at b i) ≤ largest_signed)
  unfolding rule9 rule9_at start extent
  rule9_sound = simp tests at keeps.nine

  rule10_sound : (i : ℕ) → i < entries b → NumbersFit (entry_at b i)
  unfolding rule10 rule10_at
  rule10_sound = simp (first-accepts_0, need-accepts, numbers-T) at keeps.ten

  rule11_sound : whole (num_data_sets b) ≡ pos (data_sets (directory b))
  unfolding rule11
  rule11_sound = simp tests at keeps.eleven

  rule12_sound : (i : ℕ) → i < length (directory b) → NonEmpty (at (directory b) i) → (headers_end b ≤ start (at (directory b) i)) × (start (at (directory b) i) + extent (at (directory b) i) ≤ n)
  unfolding rule12 rule12_at set_inside
  rule12_sound = simp (tests, non_empty-T) at keeps.twelve

  rule13_sound : (i : ℕ) → i < length (directory b) → ((j : ℕ) × (j < i) × ((p : ℕ) × (Byte (at (directory b) i) p × Byte (at (directory b) j) p))) → ⊥
  unfolding rule13 rule13_at shares_at
  rule13_sound = simp (tests, shares-T) at keeps.thirteen

  rule14_sound : (p : ℕ) → headers_end b ≤ p → p < n → (i : ℕ) × (i < length (directory b)) × Byte (at (directory b) i) p
  unfolding rule14 rule14_at holds_at
  rule14_sound p l u = let r = simp (first-accepts, tests, holds-T) at keeps.fourteen in r p l (omega (arith, rule6_sound.0))

  pub headed : Headed b n
  headed =
      record {
        main = rule1_sound;
        long = rule2_sound;
        total = rule4_sound;
        headers = rule6_sound.0;
        few = entries_sound;
        dsds = rule6_sound.1;
        typed = of_entries Typed typed_sound;
        counts = of_entries (λ e. e.count.magnitude < 10 ^ 10) counts_sound;
        held = of_entries (λ e. (start e ≤ largest_signed) × (extent e ≤ largest_signed)) rule9_sound;
        numbers = of_entries NumbersFit rule10_sound;
        counted = rule11_sound;
        inside = rule12_sound;
        apart = rule13_sound;
        covered = rule14_sound;
      }

-- all rules hold
module _ (b : List ℕ) (h : verdict b ≡ accepted) where
  abbrev tallied : Tally
  tallied = tally_of (states_of b (directory b))

  -- rules 1 to 14, and rules 15 and 16
  pub both_accept : (header_rules b (length b) ≡ accepted) × (state_rules (directory b) tallied ≡ accepted)
  unfolding verdict verdict_from
  both_accept = (or_else_accepts (header_rules b (length b)) (state_rules (directory b) tallied)).0 h

  pub states_accept : (rule15 (directory b) tallied ≡ accepted) × (rule16 (directory b) tallied ≡ accepted)
  unfolding state_rules
  states_accept = (or_else_accepts (rule15 (directory b) tallied) (rule16 (directory b) tallied)).0 both_accept.1

  rule16_sound : (i : ℕ) → i < length (directory b) → Variable (at (directory b) i) → FilledBy b (directory b) (at (directory b) i)
  unfolding rule16 rule16_at
  rule16_sound i l v =
      let r = simp (first-accepts_0, where_accepts, need-accepts) at states_accept.1 in
      let t = (variable_T (at (directory b) i)).1 v in
      (filled-T b (directory b) (at (directory b) i) t).0 (r i l t)

  pub sound : Sound b
  sound = record { headed = headed b (length b) both_accept.0; filled = rule16_sound }

  pub accepted-entries : entries b ≤ 128
  accepted-entries = sound.headed.few
