-- Rules 7 to 14 put together from what the checks answer, and what rules 8 and 10 give to those after them: only entries with a set have a size.
-- Assumes nothing.
use Rattle.std.specs.Prelude.{Result}
use Prim.Native.Nat.{ℕ, zero, suc, ◌+◌, ◌*◌, ◌-◌, ◌≤◌, ◌<◌}
use mathlib.Core.Bool.{Bool, true, false, cond, ◌&&◌, ◌||◌, not, and-false}
use mathlib.Core.List.{List}
use mathlib.Core.Logic.{◌⊎◌, inl, inr, ⊎_elim}
use mathlib.Core.Path.{◌≡◌, refl, sym, ap, ◌∙◌}
use native.Mathlib.Omega.{arith}
use native.Mathlib.Nat.{zero-add}
use lib.Dec.{T, leb, ltb, eqb, eqb→eq}
use lib.IntN.{pos, negsuc}
use lib.Signed.{le_z, lt_z}
use lib.ListN.{length, drop, get_or, length-drop}
use lib.Seq.{length-take-le}
use borrow.Author.Tests.{eq-eqb, ne_eqb, eqb-true, le-ltb}
use Rattle.layout.specs.Bytes.{bytes, part, member}
use Rattle.layout.specs.Text.{layout, line_classes, value_classes, value_width, quote_width, place_of, width_of, value_of, whole}
use Rattle.layout.specs.Lines.{mph}
use Rattle.layout.specs.Answer.{accepted, refused, need, ◌or_else◌}
use Rattle.layout.specs.Answers.{verdict_is, directory_of}
use Rattle.layout.specs.declared.Refusal.{Refusal}
use Rattle.layout.specs.Search.{first, laid_out}
use Rattle.layout.specs.Sph.{sph_lines}
use Rattle.layout.specs.Entries.{Entry, eq_z, largest_signed, header_number, num_data_sets, headers_end, entries, dsds_at, dsd_at, dsd_bytes, entry_of, entries_from, entry_at, directory, at, start, extent, non_empty, is_data, is_reference, all_zero, in_range, set_fits, numbers_fit}
use Rattle.layout.specs.Rules.{lines_of, rule7, rule8_at, rule8, rule9_at, rule9, rule10_at, rule10, rule11, rule12, rule13, rule14, rules7to14, header_rules}
use Rattle.layout.proofs.Laws.{need-accepts, or_else_accepts, or_else_assoc, first-accepts_0, first_found, find_bounds, find_at, not-not}
use Rattle.layout.proofs.Padded.{padded-at}
use Rattle.layout.proofs.Sound.{length-directory, at-directory, entry-at, directory_from, keeps}
use Rattle.layout.proofs.Tests.{is_true}
use Rattle.layout.proofs.Types.{laid_out_typed}
use Rattle.text.specs.Numbers.{number_in}
use Rattle.text.specs.declared.Number.{Number as HeldNumber}
use Rattle.placement.specs.Sets.{Held}
use Rattle.dsd.specs.Held.{number_from, held_of, view_of, over_place}
use Rattle.dsd.proofs.Views.{turn_held, capped_test}
use Rattle.ranks.specs.Ranks.{ranks_by}
use Rattle.ranks.proofs.Ranks.{ranks_same}
use Rattle.directory.specs.Numbers.{sets_of, held_start, held_sets, directory_with}
use Rattle.directory.specs.Checks.{Headers, Dsds, SparesByFirst, over_at, unfit_at, Counted, text_rules, number_rules, place_rules, Placed}
use Rattle.directory.proofs.Turns.{place, nine}
use Rattle.directory.proofs.Held.{not_over, held_same}
use Rattle.sph.specs.LineEnds.{first_bad_line}
use Rattle.directory.specs.declared.Sets.{Sets}
use Rattle.directory.specs.declared.Reading.{Reading}
use Rattle.dsd.proofs.Numbers.{is_zero, above, from_zero, equals, both_pass}
use Rattle.dsd.proofs.Fits.{all_four}
use Rattle.dsd.proofs.Places.{short_number, spare_by_first}
use Rattle.sph.proofs.BadLines.{rule_7}

-- ---- where the DSDs begin

pub dsds_of : {b : List ℕ} {end n : ℕ} → Headers b end n → Dsds b (end - 280 * n) n
unfolding dsds_at
dsds_of h =
    let e = h.ends in
    let a = h.all in
    record { begin = rw (← e, ← a) (omega arith); all = a; most = h.most; behind = omega (arith, h.room); inside = omega (arith, h.room, h.inside) }

module _ (b : List ℕ) (dsds n : ℕ) (placed : Dsds b dsds n) where
  length_lines : length (part b 1247 (dsds - 1247)) ≡ dsds - 1247
  unfolding part
  length_lines = length-take-le (dsds - 1247) (drop 1247 b) (omega (arith, length-drop 1247 b, placed.inside))

  pub seven : (r : ℕ) → r ≡ first_bad_line b 1247 dsds → (m : ℕ) → rule7 b m ≡ need (eqb r dsds) 7 r 128
  unfolding rule7 sph_lines
  seven r h m = rw (← placed.begin, length_lines) (rule_7 b dsds r placed.behind h)

  pub eight_all : (m : ℕ) → rule8 b m ≡ first (rule8_at b) 0 n
  unfolding rule8
  eight_all m = ap (first (rule8_at b) 0) (sym placed.all)

  -- where rules 7 and 8 hold, the first byte tells the spares
  pub spares_by_first : (m : ℕ) → text_rules b m ≡ accepted → SparesByFirst b dsds n
  unfolding text_rules rule8 rule8_at dsd_bytes
  spares_by_first m text i l =
      let eight = (first-accepts_0 (rule8_at b) (entries b)).0 ((or_else_accepts (rule7 b m) (rule8 b m)).0 text).1 i (omega (arith, placed.all)) in
      spare_by_first b (dsds + 280 * i) 8 i (dsd_at b i) (rw (place b dsds n i placed) eight)

  length-all : length (directory b) ≡ n
  length-all = length-directory b ∙ sym placed.all

  -- ---- NUM_DATA_SETS, of which r is what is read

  module _ (bytes : (k : ℕ) → get_or b k 0 < 256) (r : HeldNumber) (e : r ≡ number_in b 1194 11) where
    data-sets : number_from r ≡ num_data_sets b
    unfolding number_from num_data_sets header_number value_of place_of width_of mph line_classes value_classes quote_width value_width
    data-sets = ap number_from (e ∙ short_number b bytes 1194 (omega (arith, placed.behind, placed.inside)))

    pub eleven_by : (counted : ℕ) → eq_z (whole (num_data_sets b)) (pos counted) ≡ (le_z (pos 0) (whole (number_from r)) && eqb (number_from r).magnitude counted)
    eleven_by counted = rw data-sets (equals (num_data_sets b) counted)

-- ---- only entries with a set have a size

-- of type M, A, G or R, or without a size, as a spare is
abbrev Sized : Entry → Type 0
Sized e = T (member e.type (bytes "MAGR")) ⊎ (e.size.magnitude ≡ 0)

laid_out_sized : (d : List ℕ) (n e p : ℕ) → laid_out n e p (layout (lines_of d)) d ≡ accepted → Sized (entry_of d)
laid_out_sized d n e p h = ⊎_elim inl (λ s. inr s.1.1) (laid_out_typed d n e p h)

module _ (e : Entry) (fit : numbers_fit e ≡ true) where
  -- a set's size is not negative
  set-size : is_data e ≡ true → le_z (pos 0) (whole e.size) ≡ true
  unfolding numbers_fit in_range
  set-size h =
      let ranged = (both_pass (in_range e) (set_fits e) (rw h at (both_pass (not (is_reference e) || all_zero e) (not (is_data e) || (in_range e && set_fits e)) fit).1)).0 in
      (all_four (le_z (pos 0) (whole e.offset)) (le_z (pos 0) (whole e.size)) (le_z (pos 0) (whole e.count)) (le_z (negsuc 0) (whole e.record_size)) ranged).0

  -- R has no size
  reference_size : e.type ≡ 82 → e.size.magnitude ≡ 0
  unfolding numbers_fit is_reference all_zero
  reference_size h =
      let zero = rw (eq-eqb e.type 82 h) at (both_pass (not (is_reference e) || all_zero e) (not (is_data e) || (in_range e && set_fits e)) fit).0 in
      let size = (both_pass (eq_z (whole e.size) (pos 0)) (eq_z (whole e.count) (pos 0) && eq_z (whole e.record_size) (pos 0)) (both_pass (eq_z (whole e.offset) (pos 0)) (eq_z (whole e.size) (pos 0) && (eq_z (whole e.count) (pos 0) && eq_z (whole e.record_size) (pos 0))) zero).1).0 in
      eqb-true e.size.magnitude 0 (sym (is_zero e.size) ∙ size)

  not_data : (m a g r : Bool) → T (m || (a || (g || (r || false)))) → (m || (a || (g || false))) ≡ false → r ≡ true
  not_data true a g r h f = let z : ◌≡◌ {A = ℕ} 0 1 = cc in absurd (omega arith)
  not_data false true g r h f = let z : ◌≡◌ {A = ℕ} 0 1 = cc in absurd (omega arith)
  not_data false false true r h f = let z : ◌≡◌ {A = ℕ} 0 1 = cc in absurd (omega arith)
  not_data false false false true h f = refl
  not_data false false false false h f = absurd h

  no_size : is_data e ≡ false → Sized e → e.size.magnitude ≡ 0
  unfolding is_data
  no_size h (inl m) = reference_size (eqb-true e.type 82 (not_data (eqb e.type 77) (eqb e.type 65) (eqb e.type 71) (eqb e.type 82) m h))
  no_size h (inr z) = z

  sized : Sized e → non_empty e ≡ ltb 0 (extent e)
  unfolding non_empty extent
  sized s = go (is_data e) refl
    where
      set : (k : ℕ) (m : Bool) → (eqb k 0 || not m) ≡ true → (k ≡ 0) ⊎ (0 < k) → (not m && ltb 0 k) ≡ ltb 0 k
      set k m h (inl z) = rw (le-ltb 0 k (omega arith), and-false)
      set k m h (inr l) = rw (rw (ne_eqb k 0 (λ z. omega arith)) at h)

      split : (k : ℕ) → (k ≡ 0) ⊎ (0 < k)
      split zero = inl refl
      split (suc k) = inr (omega arith)

      go : (t : Bool) → is_data e ≡ t → (t && lt_z (pos 0) (whole e.size)) ≡ ltb 0 e.size.magnitude
      go true h = rw (above e.size) (set e.size.magnitude e.size.minus (sym (from_zero e.size) ∙ set-size h) (split e.size.magnitude))
      go false h = let z = no_size h s in sym (le-ltb 0 e.size.magnitude (omega arith))

-- what the arrays hold where rules 8 and 10 accept
module _ (b : List ℕ) (m : ℕ) (eight : rule8 b m ≡ accepted) (ten : rule10 b m ≡ accepted) where
  entry_sized : (i : ℕ) → i < length (directory b) → non_empty (at (directory b) i) ≡ ltb 0 (extent (at (directory b) i))
  unfolding rule8 rule8_at rule10 rule10_at
  entry_sized i l =
      let k : i < entries b = omega (arith, length-directory b) in
      let laid = (first-accepts_0 (rule8_at b) (entries b)).0 eight i k in
      let fit = (need-accepts (numbers_fit (entry_at b i)) 10 (dsd_at b i) i).0 ((first-accepts_0 (rule10_at b) (entries b)).0 ten i k) in
      rw (at-directory b i k) (sized (entry_at b i) (is_true (numbers_fit (entry_at b i)) fit) (rw (entry-at b i) (laid_out_sized (dsd_bytes b i) 8 i (dsd_at b i) laid)))

  held : (offsets sizes : List ℕ) → offsets ≡ (sets_of (directory b)).offsets → sizes ≡ (sets_of (directory b)).sizes → Held (directory b) offsets sizes
  unfolding sets_of
  held offsets sizes o s =
      record {
        starts = λ i l. ap (λ (x : List ℕ). get_or x i 0) o ∙ padded-at start 0 128 (directory b) i l;
        extents = λ i l. ap (λ (x : List ℕ). get_or x i 0) s ∙ padded-at extent 0 128 (directory b) i l;
        filled = entry_sized;
      }

-- ---- rules 9 to 11, by what a reading counts

module _ (b : List ℕ) (dsds n : ℕ) (placed : Dsds b dsds n) (r : Reading) (counted : Counted (directory b) r) (m : ℕ) where
  which : (t u : Bool) → T (not (eqb (cond t (cond u 0 170) 133) 0)) → ◌≡◌ {A = ℕ} (cond t 170 133) (cond t (cond u 0 170) 133)
  which true true h = absurd h
  which true false h = refl
  which false u h = refl

  at_over : (i : ℕ) → i < entries b → over_at (directory b) i ≡ not (eqb (over_place (entry_at b i)) 0)
  unfolding over_at
  at_over i l = rw (at-directory b i l)

  nine_by : rule9 b m ≡ need (eqb r.within n) 9 (dsds + 280 * r.within + over_place (entry_at b r.within)) r.within
  unfolding rule9 over_at
  nine_by =
      first_found (over_at (directory b)) (rule9_at b) 9 0 (entries b) (λ j. dsd_at b j + over_place (entry_at b j))
      (λ j l u. nine b j ∙ rw (at-directory b j (omega arith), not-not (eqb (over_place (entry_at b j)) 0)))
      ∙ rw (zero-add (entries b), ← length-directory b, ← counted.nine, length-all b dsds n placed, place b dsds n r.within placed)

  module _ (none : r.within ≡ n) where
    not_over_at : (j : ℕ) → j < entries b → over_place (view_of (held_of (entry_at b j))) ≡ 0
    not_over_at j l =
        rw (at-directory b j l) at
        (not_over (directory b) (sym counted.nine ∙ none ∙ sym (length-all b dsds n placed)) j (omega (arith, length-directory b)))

    ten_by : rule10 b m ≡ need (eqb r.fitting n) 10 (dsds + 280 * r.fitting) r.fitting
    unfolding rule10 rule10_at unfit_at
    ten_by =
        first_found (unfit_at (directory b)) (rule10_at b) 10 0 (entries b) (dsd_at b)
        (λ j l u. rw (at-directory b j (omega arith), (turn_held (entry_at b j) (not_over_at j (omega arith))).fits, not-not (numbers_fit (entry_at b j))))
        ∙ rw (zero-add (entries b), ← length-directory b, ← counted.ten, length-all b dsds n placed, place b dsds n r.fitting placed)

    -- the numbers held are those of the directory
    numbers-are : held_sets (directory b) ≡ sets_of (directory b)
    numbers-are = held_same (directory b) (sym counted.nine ∙ none ∙ sym (length-all b dsds n placed))

    pub ten_stops : (r.fitting ≡ n → ⊥) → number_rules b m ≡ refused 10 (dsds + 280 * r.fitting) r.fitting
    unfolding number_rules
    ten_stops h = rw (nine_by, eq-eqb r.within n none, ten_by, ne_eqb r.fitting n h)

    pub eleven-left : r.fitting ≡ n → number_rules b m ≡ need (eq_z (whole (num_data_sets b)) (pos r.counted)) 11 1194 128
    unfolding number_rules rule11
    eleven-left h = rw (nine_by, eq-eqb r.within n none, ten_by, eq-eqb r.fitting n h, ← counted.eleven)

  pub within-most : r.within ≤ n
  within-most = rw counted.nine (omega (arith, (find_bounds (over_at (directory b)) 0 (length (directory b))).1, length-all b dsds n placed))

  pub fitting_most : r.fitting ≤ n
  fitting_most = rw counted.ten (omega (arith, (find_bounds (unfit_at (directory b)) 0 (length (directory b))).1, length-all b dsds n placed))

  pub nine_stops : (r.within ≡ n → ⊥) → number_rules b m ≡ refused 9 (dsds + 280 * r.within + over_place (entry_at b r.within)) r.within
  unfolding number_rules
  nine_stops h = rw (nine_by, ne_eqb r.within n h)

  -- which of the two numbers is over, by the offset held
  pub over_by : (offsets : List ℕ) → offsets ≡ (held_sets (directory b)).offsets → (r.within ≡ n → ⊥)
      → cond (leb (get_or offsets r.within 0) largest_signed) 170 133 ≡ over_place (entry_at b r.within)
  unfolding held_sets held_of over_place
  over_by offsets held h =
      let inside : r.within < length (directory b) = omega (arith, within-most, length-all b dsds n placed) in
      let k : r.within < entries b = omega (arith, length-directory b) in
      let is : get_or offsets r.within 0 ≡ held_start (entry_at b r.within) = rw held (padded-at held_start 0 128 (directory b) r.within inside ∙ ap held_start (at-directory b r.within k)) in
      let over = find_at (over_at (directory b)) 0 (length (directory b)) (omega (arith, counted.nine)) in
      rw (is, capped_test (entry_at b r.within).offset.magnitude)
      (which (leb (entry_at b r.within).offset.magnitude largest_signed) (leb (entry_at b r.within).size.magnitude largest_signed) (rw (← counted.nine, at_over r.within k) at over))

  -- where they accept, no number is over
  none_over : number_rules b m ≡ accepted → r.within ≡ n
  unfolding number_rules
  none_over h =
      let nine-ok = ((or_else_accepts (rule9 b m) (rule10 b m or_else rule11 b m)).0 h).0 in
      eqb→eq r.within n ((need-accepts (eqb r.within n) 9 (dsds + 280 * r.within + over_place (entry_at b r.within)) r.within).0 (sym nine_by ∙ nine-ok))

pub over_one : (t : Bool) {r : ℕ} → r ≡ cond t 170 133 → r ≤ 170
over_one true h = omega arith
over_one false h = omega arith

-- ---- the rules in their order

pub rules_split : (b : List ℕ) (n : ℕ) → rules7to14 b n ≡ (text_rules b n or_else (number_rules b n or_else place_rules (directory b) (headers_end b) n))
unfolding rules7to14 text_rules number_rules place_rules rule12 rule13 rule14
rules_split b n = sym (simp or_else_assoc)

-- ---- a reading of the DSDs, and what rules 12 to 14 are answered of its numbers

module _ (b : List ℕ) (end k : ℕ) (headers : Headers b end k) where
  abbrev dsds : ℕ
  dsds = end - 280 * k

  pub the_directory : entries_from b dsds k ≡ directory b
  the_directory = directory_from b dsds k (dsds_of headers).begin headers.all

  module _ (n : ℕ) (text : text_rules b n ≡ accepted) (r : Reading) (counted : Counted (directory b) r) (numbers : number_rules b n ≡ accepted) where
    pub numbers-read : held_sets (directory b) ≡ sets_of (directory b)
    numbers-read = numbers-are b dsds k (dsds_of headers) r counted n (none_over b dsds k (dsds_of headers) r counted n numbers)

    pub places_are : (offsets sizes : List ℕ) → offsets ≡ (held_sets (directory b)).offsets → sizes ≡ (held_sets (directory b)).sizes
        → (v : Result (Unit {0}) Refusal) → Placed offsets sizes k end n v → verdict_is v ≡ place_rules (directory b) (headers_end b) n
    unfolding text_rules number_rules
    places_are offsets sizes o s v p =
        let eight = ((or_else_accepts (rule7 b n) (rule8 b n)).0 text).1 in
        let ten = ((or_else_accepts (rule10 b n) (rule11 b n)).0 ((or_else_accepts (rule9 b n) (rule10 b n or_else rule11 b n)).0 numbers).1).0 in
        let starts = o ∙ ap (λ (x : Sets). x.offsets) numbers-read in
        let extents = s ∙ ap (λ (x : Sets). x.sizes) numbers-read in
        p.answer (directory b) (held b n eight ten offsets sizes starts extents) (length-all b dsds k (dsds_of headers))
        ∙ ap (λ (h : ℕ). place_rules (directory b) h n) headers.ends

-- ---- a directory by its own numbers, where rules 1 to 14 hold

module _ (b : List ℕ) (n : ℕ) (accepts : header_rules b n ≡ accepted) (sets : Sets) (are : sets ≡ sets_of (directory b)) where
  pub ranks-are : ranks_by sets.offsets sets.sizes sets.entries ≡ (directory_of (directory b)).ranks
  unfolding sets_of
  ranks-are =
      let rules = keeps b n accepts in
      let by-numbers = held b n rules.eight rules.ten sets.offsets sets.sizes (ap (λ (s : Sets). s.offsets) are) (ap (λ (s : Sets). s.sizes) are) in
      ap (λ (s : Sets). ranks_by sets.offsets sets.sizes s.entries) are ∙ ranks_same (directory b) sets.offsets sets.sizes by-numbers

  pub with_numbers : directory_with sets (directory b) ≡ directory_of (directory b)
  unfolding directory_with directory_of sets_of
  with_numbers =
      let ranks = ranks-are in
      λ j. record {
        entries = (are j).entries;
        types = (are j).types;
        names = (directory_of (directory b)).names;
        filenames = (directory_of (directory b)).filenames;
        offsets = (are j).offsets;
        sizes = (are j).sizes;
        counts = (are j).counts;
        record_sizes = (are j).record_sizes;
        ranks = ranks j;
      }
