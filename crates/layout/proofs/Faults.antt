-- Each rule of specs/Rules judges its faults, which specs/Faults states as document 01 does.
-- Assumes nothing.
use Prim.Native.Nat.{ℕ, zero, suc, ◌+◌, ◌*◌, ◌-◌, ◌≤◌, ◌<◌}
use mathlib.Core.Bool.{Bool, true, false, cond, ◌&&◌, not}
use mathlib.Core.Logic.Iff
use mathlib.Core.Logic.{◌↔◌, ◌⊎◌, inl, inr, ⊎_elim}
use mathlib.Core.List.{List, [], ◌∷◌, ◌++◌, map}
use mathlib.Core.Path.{◌≡◌, refl, sym, ap, ◌∙◌, subst}
use native.Mathlib.Omega.{arith}
use native.Mathlib.Nat.{zero-add, add-zero, suc-add, add-suc, zero-mul, suc-mul}
use lib.Dec.{T, leb, eqb, leb-suc-suc, leb-suc-zero}
use lib.IntN.{pos}
use lib.ListN.{length, take, drop, get_or, replicate, length-append, length-replicate}
use lib.Seq.{length-take-le, split_at, drop-cons, drop-append_seam, take-append_seam}
use Rattle.layout.specs.Bytes.{byte_at, part}
use Rattle.layout.specs.Text.{layout, whole, line_classes, value_classes, value_width, quote_width, place_of, width_of, value_of}
use Rattle.layout.specs.Lines.{mph, dsd, spare_dsd}
use Rattle.layout.specs.Answer.{Answer, need, none, ◌⇒◌, ◌or_else◌}
use Rattle.layout.specs.Search.{first, some, count, find, upto, sum, join}
use Rattle.layout.specs.Entries.{Entry, largest_signed, eq_z, tot_size, dsd_size, num_data_sets, entries, dsd_at, dsd_bytes, entry_of, entry_at, directory, at, non_empty, non_empty_at, start, extent, kind_of, is_variable, numbers_fit}
use Rattle.layout.specs.Sph.{sph_lines, line, line_begins}
use Rattle.layout.specs.States.{State, state_fits, state_count, state_lengths, state_bytes, count_of_kind, total_of_kind, is_states_at, states_entry, state_at, states_at, states_of, state_in, first_bad, tally_of, of_kind}
use Rattle.layout.specs.Records.{variable_lengths}
use Rattle.layout.specs.Rules.{rule1, rule2, rule3, rule4, rule5, sph_fits, dsds_fit, rule6, rule7_at, rule7, lines_of, rule8_at, rule8, rule9_at, rule9, rule10_at, rule10, data_sets, rule11, set_inside, rule12_at, shares_at, rule13_at, holds_at, rule14_at, is_variable_at, states_fit, rule15, is_filled, rule16_at, rule16}
use Rattle.layout.specs.Faults.{At, Upto, LaidOut, DsdLaidOut, NonEmpty, Byte, OfKind, Variable, NumbersFit, HowMany, OnlyStates, StateFits, RecordLengths, Fault1, Fault2, Fault3, Fault4, Fault5, SphFits, DsdsFit, Fault6, Fault7, Fault8, Fault9, Fault10, Fault11, Fault12, Fault13, Fault14, HasVariable, BadStates, Fault15, Filled, Fault16}
use Rattle.layout.proofs.Laws.{not_not_T, not_iff, and_T, imp-T, not-T', not-imp-T, leb-T, under, eqb-T, le_z_T, lt_z_T, eq_z-T, some-T}
use Rattle.layout.proofs.Tests.{non_empty-T, holds-T, shares-T, of-kind, kind-is, variable_T, variable_kind, numbers-T, state-T, states_T, lengths-are, one-lengths, number_is, one_number, counted_once, once_found, once_counted}
use Rattle.layout.proofs.SphText.{line-T, begins_T}
use Rattle.layout.proofs.Judges.{Judges, same_faults, need_judges, need_then_judges, both_judges, where_judges, entries_judge, places_judge, in_order_lem, laid_out_judges}
use Rattle.layout.proofs.Starts.{mph-length, lines_length}

ruleset tests = (some-T, and_T, imp-T, not-T', leb-T, eqb-T, eq_z-T, le_z_T, lt_z_T)

-- ---- the headers: the bytes at hand and the length

module _ (b : List ℕ) (n : ℕ) where
  pub judges1 : Judges (rule1 b n) 1 (Fault1 b n)
  unfolding rule1
  judges1 = need_judges (leb 1247 n) 1 n none (under 1247 n)

  pub judges2 : Judges (rule2 b n) 2 (Fault2 b n)
  unfolding rule2
  judges2 = need_judges (leb n 2147483647) 2 0 none (under n 2147483647)

  from_0 : (p e : ℕ) → ((i : ℕ) × ((i < length (layout mph)) × ((LaidOut (layout mph) b i → ⊥) × At p e (0 + i) none))) ↔ Fault3 b n p e
  from_0 p e = (
    λ f. let q : f.0 ≡ p = omega (arith, f.1.1.1.0) in (omega (arith, mph-length, f.1.0, f.1.1.1.0), (subst (λ (i : ℕ). LaidOut (layout mph) b i → ⊥) q f.1.1.0, f.1.1.1.1)),
    λ f. (p, (rw mph-length f.0, (f.1.0, (omega arith, f.1.1)))),
  )

  pub judges3 : Judges (rule3 b n) 3 (Fault3 b n)
  unfolding rule3
  judges3 = same_faults _ (Fault3 b n) from_0 (laid_out_judges 3 none (layout mph) b 0)

  pub judges4 : Judges (rule4 b n) 4 (Fault4 b n)
  unfolding rule4
  judges4 = need_judges (leb (tot_size b).magnitude largest_signed) 4 1075 none (under (tot_size b).magnitude largest_signed)

  pub judges5 : Judges (rule5 b n) 5 (Fault5 b n)
  unfolding rule5
  judges5 = need_judges (eq_z (whole (tot_size b)) (pos n)) 5 1075 none (simp tests Iff.rfl)

  after_sph : (p e q d : ℕ) → (SphFits b n → ⊥) × At p e 1113 none → ((DsdsFit b n → ⊥) × At q d 1140 none) ⊎ ((whole (dsd_size b) ≡ pos 280 → ⊥) × At q d 1161 none) → Upto p e q d
  after_sph p e q d x (inl y) = in_order_lem 1113 1140 none p e q d (omega arith) x.1 y.1
  after_sph p e q d x (inr y) = in_order_lem 1113 1161 none p e q d (omega arith) x.1 y.1

  pub judges6 : Judges (rule6 b n) 6 (Fault6 b n)
  unfolding rule6 sph_fits dsds_fit
  judges6 =
      both_judges after_sph (need_judges (sph_fits b n) 6 1113 none (simp tests Iff.rfl))
      (both_judges (λ p e q d x y. in_order_lem 1140 1161 none p e q d (omega arith) x.1 y.1) (need_judges (dsds_fit b) 6 1140 none (simp tests Iff.rfl)) (need_judges (eq_z (whole (dsd_size b)) (pos 280)) 6 1161 none (simp tests Iff.rfl)))

  -- the place of a line that begins and is none, by its number and by what stands before it
  line_fault : (p e : ℕ) → ((i : ℕ) × ((0 ≤ i) × ((i < 0 + length (sph_lines b)) × ((T (line_begins (sph_lines b) i) × (T (line (drop i (sph_lines b))) → ⊥)) × At p e (1247 + i) none)))) ↔ Fault7 b n p e
  line_fault p e = (to, from)
    where
      l : List ℕ
      l = sph_lines b

      to : ((i : ℕ) × ((0 ≤ i) × ((i < 0 + length l) × ((T (line_begins l i) × (T (line (drop i l)) → ⊥)) × At p e (1247 + i) none)))) → Fault7 b n p e
      to f =
          let i = f.0 in
          let h : i < length l = omega (arith, f.1.1.0) in
          let g = f.1.1.1.0 in
          let q : length (take i l) ≡ i = length-take-le i l (omega arith) in (
            take i l,
            (
              get_or l i 0,
              (
                drop (suc i) l,
                (
                  split_at l i 0 h,
                  (
                    (begins_T l i (omega arith)).0 g.0,
                    (
                      λ k after e s. g.1 ((line-T (drop i l)).1 (k, (after, (drop-cons l i 0 h ∙ e, s)))),
                      rw q f.1.1.1.1,
                    ),
                  ),
                ),
              ),
            ),
          )

      from : Fault7 b n p e → (i : ℕ) × ((0 ≤ i) × ((i < 0 + length l) × ((T (line_begins l i) × (T (line (drop i l)) → ⊥)) × At p e (1247 + i) none)))
      from f =
          let before = f.0 in
          let x = f.1.0 in
          let rest = f.1.1.0 in
          let whole = f.1.1.1.0 in
          let g = f.1.1.1.1 in
          let d : drop (length before) l ≡ x ∷ rest = ap (drop (length before)) whole ∙ drop-append_seam before (x ∷ rest) in
          let k : take (length before) l ≡ before = ap (take (length before)) whole ∙ take-append_seam before (x ∷ rest) in
          let m : length l ≡ length before + suc (length rest) = ap length whole ∙ length-append before (x ∷ rest) in (
            length before,
            (
              omega arith,
              (
                omega (arith, m),
                (
                  (
                    (begins_T l (length before) (omega (arith, m))).1 (rw k g.0),
                    λ t. let r = (line-T (drop (length before) l)).0 t in g.1.0 r.0 r.1.0 (sym d ∙ r.1.1.0) r.1.1.1,
                  ),
                  g.1.1,
                ),
              ),
            ),
          )

  pub judges7 : Judges (rule7 b n) 7 (Fault7 b n)
  unfolding rule7 rule7_at
  judges7 =
      same_faults _ (Fault7 b n) line_fault
      (places_judge (rule7_at (sph_lines b)) 7 none 0 (length (sph_lines b)) (λ i. T (line_begins (sph_lines b) i) × (T (line (drop i (sph_lines b))) → ⊥)) (λ i. 1247 + i) (λ i j l. omega arith)
      (λ i. need_judges (line_begins (sph_lines b) i ⇒ line (drop i (sph_lines b))) 7 (1247 + i) none (not-imp-T (line_begins (sph_lines b) i) (line (drop i (sph_lines b))))))

  -- the lines that decide a DSD
  which_lines : (d : List ℕ) (i : ℕ) → LaidOut (layout (lines_of d)) d i ↔ DsdLaidOut d i
  unfolding lines_of
  which_lines d i = go (eqb (byte_at d 0) 32) refl
    where
      go : (t : Bool) → eqb (byte_at d 0) 32 ≡ t → LaidOut (layout (cond t spare_dsd dsd)) d i ↔ DsdLaidOut d i
      go true e = let q = (eqb-T (byte_at d 0) 32).0 (rw e tt) in (λ h. (λ s. h, λ o. absurd (o q)), λ h. h.0 q)
      go false e = let o : byte_at d 0 ≡ 32 → ⊥ = λ q. absurd (rw e at ((eqb-T (byte_at d 0) 32).1 q)) in (λ h. (λ s. absurd (o s), λ _. h), λ h. h.1 o)

  pub judges8 : Judges (rule8 b n) 8 (Fault8 b n)
  unfolding rule8 rule8_at
  judges8 =
      entries_judge (rule8_at b) 8 (entries b) (λ e p. (i : ℕ) × ((i < 280) × ((DsdLaidOut (dsd_bytes b e) i → ⊥) × (p ≡ dsd_at b e + i))))
      (λ j. same_faults _ _ (λ p e. (
        λ f. ((f.0, (omega (arith, lines_length (dsd_bytes b j), f.1.0), ((not_iff (which_lines (dsd_bytes b j) f.0)).0 f.1.1.0, f.1.1.1.0))), f.1.1.1.1),
        λ f. (f.0.0, (omega (arith, lines_length (dsd_bytes b j), f.0.1.0), ((not_iff (which_lines (dsd_bytes b j) f.0.0)).1 f.0.1.1.0, (f.0.1.1.1, f.1)))),
      )) (laid_out_judges 8 j (layout (lines_of (dsd_bytes b j))) (dsd_bytes b j) (dsd_at b j)))

  pub judges9 : Judges (rule9 b n) 9 (Fault9 b n)
  unfolding rule9 rule9_at
  judges9 =
      entries_judge (rule9_at b) 9 (entries b) (λ e p. ((largest_signed < (entry_at b e).offset.magnitude) × (p ≡ dsd_at b e + 133)) ⊎ ((largest_signed < (entry_at b e).size.magnitude) × (p ≡ dsd_at b e + 170)))
      (λ j. same_faults _ _ (λ p e. (
        ⊎_elim (λ f. (inl (f.0, f.1.0), f.1.1)) (λ f. (inr (f.0, f.1.0), f.1.1)),
        λ f. ⊎_elim (λ g. inl (g.0, (g.1, f.1))) (λ g. inr (g.0, (g.1, f.1))) f.0,
      ))
      (both_judges (λ p e q d x y. in_order_lem (dsd_at b j + 133) (dsd_at b j + 170) j p e q d (omega arith) x.1 y.1)
      (need_judges (leb (entry_at b j).offset.magnitude largest_signed) 9 (dsd_at b j + 133) j (under (entry_at b j).offset.magnitude largest_signed))
      (need_judges (leb (entry_at b j).size.magnitude largest_signed) 9 (dsd_at b j + 170) j (under (entry_at b j).size.magnitude largest_signed))))

  pub judges10 : Judges (rule10 b n) 10 (Fault10 b n)
  unfolding rule10 rule10_at
  judges10 =
      entries_judge (rule10_at b) 10 (entries b) (λ e p. (NumbersFit (entry_at b e) → ⊥) × (p ≡ dsd_at b e))
      (λ j. same_faults _ _ (λ p e. (λ f. ((f.0, f.1.0), f.1.1), λ f. (f.0.0, (f.0.1, f.1))))
      (need_judges (numbers_fit (entry_at b j)) 10 (dsd_at b j) j (not_iff (numbers-T (entry_at b j)))))

  counted : (ds : List Entry) → HowMany NonEmpty ds (data_sets ds)
  unfolding data_sets non_empty_at
  counted ds = number_is NonEmpty non_empty non_empty-T ds

  pub judges11 : Judges (rule11 b n) 11 (Fault11 b n)
  unfolding rule11
  judges11 =
      let m = data_sets (directory b) in
      let z = whole (num_data_sets b) in
      need_judges (eq_z z (pos m)) 11 1194 none (
        λ h k c e. h ((eq_z-T z (pos m)).1 (e ∙ ap pos (one_number NonEmpty (directory b) k m c (counted (directory b))))),
        λ h t. h m (counted (directory b)) ((eq_z-T z (pos m)).0 t),
      )

-- ---- the sets: a directory, where the headers end, and the length

module _ (ds : List Entry) (h n : ℕ) where
  pub judges12 : Judges (first (rule12_at ds h n) 0 (length ds)) 12 (Fault12 ds h n)
  unfolding rule12_at set_inside
  judges12 =
      entries_judge (rule12_at ds h n) 12 (length ds) (λ e p. (NonEmpty (at ds e) × ((h ≤ start (at ds e)) × (start (at ds e) + extent (at ds e) ≤ n) → ⊥)) × (p ≡ start (at ds e)))
      (λ j. same_faults _ _ (λ p e. (λ f. ((f.0, f.1.0), f.1.1), λ f. (f.0.0, (f.0.1, f.1))))
      (need_judges (set_inside h n (at ds j)) 12 (start (at ds j)) j (Iff.trans (not-imp-T (non_empty (at ds j)) (leb h (start (at ds j)) && leb (start (at ds j) + extent (at ds j)) n)) (simp (tests, non_empty-T) Iff.rfl))))

  pub judges13 : Judges (first (rule13_at ds) 0 (length ds)) 13 (Fault13 ds h n)
  unfolding rule13_at shares_at
  judges13 =
      entries_judge (rule13_at ds) 13 (length ds) (λ e p. ((j : ℕ) × (j < e) × ((q : ℕ) × (Byte (at ds e) q × Byte (at ds j) q))) × (p ≡ start (at ds e)))
      (λ j. same_faults _ _ (λ p e. (λ f. ((f.0, f.1.0), f.1.1), λ f. (f.0.0, (f.0.1, f.1))))
      (need_judges (not (some (shares_at ds j) 0 j)) 13 (start (at ds j)) j (simp (not_not_T, some-T, shares-T) Iff.rfl)))

  pub judges14 : Judges (first (rule14_at ds) h (n - h)) 14 (Fault14 ds h n)
  unfolding rule14_at holds_at
  judges14 =
      same_faults _ (Fault14 ds h n) (λ p e. (to p e, λ f. (p, (f.0.0, (omega (arith, f.0), (f.1.0, (refl, f.1.1)))))))
      (places_judge (rule14_at ds) 14 none h (n - h) (λ p. ((i : ℕ) × (i < length ds) × Byte (at ds i) p) → ⊥) (λ p. p) (λ i j l. omega arith)
      (λ p. need_judges (some (holds_at ds p) 0 (length ds)) 14 p none (simp (tests, holds-T) Iff.rfl)))
    where
      to : (p e : ℕ) → ((j : ℕ) × ((h ≤ j) × ((j < h + (n - h)) × ((((i : ℕ) × (i < length ds) × Byte (at ds i) j) → ⊥) × At p e j none)))) → Fault14 ds h n p e
      to p e f =
          let q : f.0 ≡ p = sym f.1.1.1.1.0 in
          ((omega (arith, f.1.0), omega (arith, f.1.0, f.1.1.0)), (subst (λ (j : ℕ). ((i : ℕ) × (i < length ds) × Byte (at ds i) j) → ⊥) q f.1.1.1.0, f.1.1.1.1.1))

-- ---- the states: their entry, and their records

module _ (f : ℕ → State) (k m : ℕ) (place : ℕ → ℕ) where
  fits-at : ℕ → Answer
  fits-at j = need (state_fits (f j)) k (place j) m

  -- the first bad state, found by its number
  bad-first : (n i : ℕ) → need (leb n (first_bad (map f (upto i n)))) k (place (i + first_bad (map f (upto i n)))) m ≡ first fits-at i n
  unfolding first_bad first fits-at
  bad-first zero i = refl
  bad-first (suc n) i = go (state_fits (f i)) (bad-first n (suc i))
    where
      go : (t : Bool) → need (leb n (first_bad (map f (upto (suc i) n)))) k (place (suc i + first_bad (map f (upto (suc i) n)))) m ≡ first fits-at (suc i) n
          → need (leb (suc n) (cond t (suc (first_bad (map f (upto (suc i) n)))) 0)) k (place (i + cond t (suc (first_bad (map f (upto (suc i) n)))) 0)) m ≡ (need t k (place i) m or_else first fits-at (suc i) n)
      go true below = rw (leb-suc-suc n (first_bad (map f (upto (suc i) n))), add-suc i (first_bad (map f (upto (suc i) n))), ← suc-add i (first_bad (map f (upto (suc i) n)))) below
      go false below = rw (leb-suc-zero n, add-zero i)

later : (f : Entry) (i j : ℕ) → i < j → state_at f i ≤ state_at f j
unfolding state_at
later f i j l = omega arith

-- ---- the tally, and the records that it counts

in_tally : (g : ℕ → ℕ) (k : ℕ) → 0 < k → k ≤ 4 → of_kind (map g (upto 1 4)) k ≡ g k
unfolding of_kind
in_tally g zero l u = absurd (omega arith)
in_tally g (suc zero) l u = refl
in_tally g (suc (suc zero)) l u = refl
in_tally g (suc (suc (suc zero))) l u = refl
in_tally g (suc (suc (suc (suc zero)))) l u = refl
in_tally g (suc (suc (suc (suc (suc k))))) l u = absurd (omega arith)

pub sum-append : (xs ys : List ℕ) → sum (xs ++ ys) ≡ sum xs + sum ys
unfolding sum
sum-append [] ys = rw zero-add
sum-append (x ∷ xs) ys = rw (sum-append xs ys) (omega arith)

pub sum-replicate : (n r : ℕ) → sum (replicate n r) ≡ n * r
unfolding sum
sum-replicate zero r = rw zero-mul
sum-replicate (suc n) r = rw (sum-replicate n r, suc-mul) (omega arith)

count-is : (ss : List State) (kind : ℕ) → count_of_kind ss kind ≡ length (variable_lengths ss kind)
unfolding count_of_kind variable_lengths state_lengths sum
count-is [] kind = refl
count-is (s ∷ ss) kind =
    rw (length-append (replicate (state_count kind s) s.record_length) (join (map (state_lengths kind) ss)), length-replicate (state_count kind s) s.record_length) (ap (λ (n : ℕ). state_count kind s + n) (count-is ss kind))

total_is : (ss : List State) (kind : ℕ) → total_of_kind ss kind ≡ sum (variable_lengths ss kind)
unfolding total_of_kind variable_lengths state_lengths state_bytes sum
total_is [] kind = refl
total_is (s ∷ ss) kind =
    rw (sum-append (replicate (state_count kind s) s.record_length) (join (map (state_lengths kind) ss)), sum-replicate (state_count kind s) s.record_length) (ap (λ (n : ℕ). state_count kind s * s.record_length + n) (total_is ss kind))

-- ---- rules 15 and 16

-- only an entry of the directory is of type M
variable_inside : (ds : List Entry) (j : ℕ) → Variable (at ds j) → j < length ds
unfolding at entry_of value_of place_of width_of dsd line_classes value_classes quote_width value_width part byte_at
variable_inside [] j v = let z : ◌≡◌ {A = ℕ} 32 77 = v.1.1.0 in absurd (omega arith)
variable_inside (f ∷ ds) zero v = omega arith
variable_inside (f ∷ ds) (suc j) v = omega (arith, variable_inside ds j v)

module _ (ds : List Entry) where
  only-T : (i : ℕ) → ((i < length ds) × (T (is_states_at ds i) × ((j : ℕ) → j < length ds → T (is_states_at ds j) → j ≡ i))) ↔ OnlyStates ds i
  unfolding is_states_at
  only-T i = (
    λ h. (h.0, ((states_T (at ds i)).0 h.1.0, λ j l s. h.1.1 j l ((states_T (at ds j)).1 s))),
    λ h. (h.0, ((states_T (at ds i)).1 h.1.0, λ j l s. h.1.1 j l ((states_T (at ds j)).0 s))),
  )

  pub states-entry : (i : ℕ) → OnlyStates ds i → states_entry ds ≡ i
  unfolding states_entry
  states-entry i h = once_found (is_states_at ds) (length ds) i ((only-T i).1 h)

  one_states : (count (is_states_at ds) 0 (length ds) ≡ 1) ↔ ((i : ℕ) × OnlyStates ds i)
  unfolding states_entry
  one_states = (
    λ h. (find (is_states_at ds) 0 (length ds), (only-T (find (is_states_at ds) 0 (length ds))).0 (counted_once (is_states_at ds) (length ds) h)),
    λ h. once_counted (is_states_at ds) (length ds) h.0 ((only-T h.0).1 h.1),
  )

module _ (b : List ℕ) (ds : List Entry) where
  -- the entry of the states
  abbrev states : Entry
  states = at ds (states_entry ds)

  bad_judges : Judges (need (leb states.count.magnitude (first_bad (states_of b ds))) 15 (state_at states (first_bad (states_of b ds))) (states_entry ds)) 15
      (λ p e. (k : ℕ) × ((k < states.count.magnitude) × ((StateFits (state_in b states k) → ⊥) × At p e (state_at states k) (states_entry ds))))
  unfolding states_of states_at fits-at
  bad_judges =
      same_faults _ _ (λ p e. (λ f. (f.0, (omega (arith, f.1.1.0), f.1.1.1)), λ f. (f.0, (omega arith, (omega (arith, f.1.0), f.1.1)))))
      (subst (λ (a : Answer). Judges a 15 (λ p e. (j : ℕ) × ((0 ≤ j) × ((j < 0 + states.count.magnitude) × ((StateFits (state_in b states j) → ⊥) × At p e (state_at states j) (states_entry ds))))))
      (sym (bad-first (state_in b states) 15 (states_entry ds) (state_at states) states.count.magnitude 0) ∙ rw (zero-add (first_bad (map (state_in b states) (upto 0 states.count.magnitude)))))
      (places_judge (fits-at (state_in b states) 15 (states_entry ds) (state_at states)) 15 (states_entry ds) 0 states.count.magnitude (λ j. StateFits (state_in b states j) → ⊥) (state_at states) up
      (λ j. need_judges (state_fits (state_in b states j)) 15 (state_at states j) (states_entry ds) (not_iff (state-T (state_in b states j))))))
    where
      up : (i j : ℕ) → i < j → state_at states i ≤ state_at states j
      up i j l = later states i j l

  variable_at : T (some (is_variable_at ds) 0 (length ds)) ↔ HasVariable b ds
  unfolding is_variable_at
  variable_at = simp (some-T, variable_T) Iff.rfl

  -- the same faults by the number of the states' entry
  by_entry : (p e : ℕ)
      → (HasVariable b ds × (((((i : ℕ) × OnlyStates ds i) → ⊥) × At p e 0 none) ⊎ (((i : ℕ) × OnlyStates ds i) × (NonEmpty states × BadStates b ds (states_entry ds) p e)))) ↔ Fault15 b ds p e
  by_entry p e = (λ f. (f.0, to f.1), λ f. (f.0, from f.1))
    where
      to : (((((i : ℕ) × OnlyStates ds i) → ⊥) × At p e 0 none) ⊎ (((i : ℕ) × OnlyStates ds i) × (NonEmpty states × BadStates b ds (states_entry ds) p e)))
          → (((i : ℕ) → OnlyStates ds i → ⊥) × At p e 0 none) ⊎ ((i : ℕ) × (OnlyStates ds i × (NonEmpty (at ds i) × BadStates b ds i p e)))
      to (inl f) = inl (λ i o. f.0 (i, o), f.1)
      to (inr f) = let i = f.0.0 in let o = f.0.1 in
          inr (i, (o, subst (λ (j : ℕ). NonEmpty (at ds j) × BadStates b ds j p e) (states-entry ds i o) f.1))

      from : (((i : ℕ) → OnlyStates ds i → ⊥) × At p e 0 none) ⊎ ((i : ℕ) × (OnlyStates ds i × (NonEmpty (at ds i) × BadStates b ds i p e)))
          → ((((i : ℕ) × OnlyStates ds i) → ⊥) × At p e 0 none) ⊎ (((i : ℕ) × OnlyStates ds i) × (NonEmpty states × BadStates b ds (states_entry ds) p e))
      from (inl f) = inl (λ o. f.0 o.0 o.1, f.1)
      from (inr f) = let i = f.0 in let o = f.1.0 in
          inr ((i, o), subst (λ (j : ℕ). NonEmpty (at ds j) × BadStates b ds j p e) (sym (states-entry ds i o)) f.1.1)

  pub judges15 : Judges (rule15 ds (tally_of (states_of b ds))) 15 (Fault15 b ds)
  unfolding rule15 states_fit tally_of
  judges15 =
      same_faults _ (Fault15 b ds) by_entry
      (where_judges (some (is_variable_at ds) 0 (length ds)) variable_at
      (λ h. need_then_judges (eqb (count (is_states_at ds) 0 (length ds)) 1) 15 0 none (Iff.trans (eqb-T (count (is_states_at ds) 0 (length ds)) 1) (one_states ds))
      (where_judges (non_empty states) (non_empty-T states)
      (λ m. need_then_judges (eq_z (whole states.record_size) (pos 1387)) 15 (start states) (states_entry ds) (eq_z-T (whole states.record_size) (pos 1387)) bad_judges))))

  -- a variable set's records fill it, by the tally
  abbrev pub FilledBy : Entry → Type 0
  FilledBy f =
      (length (variable_lengths (states_of b ds) (kind_of f)) ≡ f.count.magnitude)
      × (sum (variable_lengths (states_of b ds) (kind_of f)) ≡ extent f)

  pub filled-T : (f : Entry) → T (is_variable f) → T (is_filled (tally_of (states_of b ds)) f) ↔ FilledBy f
  unfolding is_filled tally_of
  filled-T f v = let k = variable_kind f ((variable_T f).0 v) in
      rw (in_tally (count_of_kind (states_of b ds)) (kind_of f) k.0 k.1, in_tally (total_of_kind (states_of b ds)) (kind_of f) k.0 k.1, count-is (states_of b ds) (kind_of f), total_is (states_of b ds) (kind_of f)) (simp tests Iff.rfl)

  -- and by the states of the one entry that describes them
  filled_is : (f : Entry) → Variable f → (i : ℕ) → OnlyStates ds i → FilledBy f ↔ Filled b ds f
  unfolding states_of
  filled_is f v i o = (to, λ h. from h.0 h.1.0 h.1.1.0 h.1.1.1.0 h.1.1.1.1)
    where
      to : FilledBy f → Filled b ds f
      to h =
          let k = kind_of f in
          let s = subst (OnlyStates ds) (sym (states-entry ds i o)) o in
          (states_entry ds, (k, (variable_lengths (states_at b states) k, ((s, (kind-is f (variable_kind f v).0, lengths-are k (states_at b states))), h))))

      from : (j k : ℕ) (ns : List ℕ) → OnlyStates ds j × (OfKind f k × RecordLengths k (states_at b (at ds j)) ns) → (length ns ≡ f.count.magnitude) × (sum ns ≡ extent f) → FilledBy f
      from j k ns w h =
          let e : variable_lengths (states_at b states) (kind_of f) ≡ ns =
          rw (states-entry ds j w.0, of-kind f k w.1.0) (sym (one-lengths k (states_at b (at ds j)) ns w.1.1)) in
          rw e h

  module _ (fine : (p e : ℕ) → Fault15 b ds p e → ⊥) where
    -- where rule 15 has no fault and there is a variable set, one entry describes the states
    describes : HasVariable b ds → (i : ℕ) × OnlyStates ds i
    describes some = go (eqb (count (is_states_at ds) 0 (length ds)) 1) refl
      where
        go : (t : Bool) → eqb (count (is_states_at ds) 0 (length ds)) 1 ≡ t → (i : ℕ) × OnlyStates ds i
        go true e = (one_states ds).0 ((eqb-T (count (is_states_at ds) 0 (length ds)) 1).0 (rw e tt))
        go false e = absurd (fine 0 none (some, inl (λ i o. absurd (rw e at ((eqb-T (count (is_states_at ds) 0 (length ds)) 1).1 ((one_states ds).1 (i, o)))), (refl, refl))))

    described : (f : Entry) → HasVariable b ds → Variable f → FilledBy f ↔ Filled b ds f
    described f some v = let o = describes some in filled_is f v o.0 o.1

    pub judges16 : Judges (rule16 ds (tally_of (states_of b ds))) 16 (Fault16 b ds)
    unfolding rule16 rule16_at
    judges16 =
        entries_judge (rule16_at ds (tally_of (states_of b ds))) 16 (length ds) (λ e p. (Variable (at ds e) × (Filled b ds (at ds e) → ⊥)) × (p ≡ start (at ds e)))
        (λ j. same_faults _ _ (λ p e. (λ f. (((f.0, f.1.0), f.1.1.0), f.1.1.1), λ f. (f.0.0.0, (f.0.0.1, (f.0.1, f.1)))))
        (where_judges (is_variable (at ds j)) (variable_T (at ds j))
        (λ v. let w = (variable_T (at ds j)).0 v in
        need_judges (is_filled (tally_of (states_of b ds)) (at ds j)) 16 (start (at ds j)) j (not_iff (Iff.trans (filled-T (at ds j) v) (described (at ds j) (j, variable_inside ds j w, w) w))))))
