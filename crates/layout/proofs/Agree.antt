-- The verdict is a function of the length, the header bytes and the tally of the states: two products that agree on these have the same verdict
-- and the same directory, whatever else differs.
-- Assumes nothing.
use Prim.Native.Nat.{ℕ, zero, suc, ◌+◌, ◌*◌, ◌-◌, ◌≤◌, ◌<◌}
use Prim.Native.String.{String}
use mathlib.Core.List.{List, [], ◌∷◌, map}
use mathlib.Core.Path.{◌≡◌, refl, sym, ap, ◌∙◌}
use native.Mathlib.Omega.{arith}
use lib.Dec.{T, lit≤}
use lib.ListN.{length, take, drop}
use lib.Seq.{take-take}
use Rattle.layout.specs.Bytes.{part}
use Rattle.layout.specs.Text.{Number, layout, line_classes, value_classes, value_width, quote_width, place_of, width_of, value_of, number_of}
use Rattle.layout.specs.Lines.{mph}
use Rattle.layout.specs.Answer.{Answer, accepted, refused, none, ◌or_else◌}
use Rattle.layout.specs.Search.{first, upto, laid_out}
use Rattle.layout.specs.Entries.{header_number, tot_size, sph_size, num_dsd, dsd_size, num_data_sets, headers_end, entries, dsds_at, dsd_at, dsd_bytes, entry_of, entry_from, entries_from, entry_at, directory}
use Rattle.layout.specs.Sph.{sph_lines}
use Rattle.layout.specs.States.{Tally, states_of, tally_of}
use Rattle.layout.specs.Rules.{rule1, rule2, rule3, rule4, rule5, rule6, sph_fits, dsds_fit, rule7, rule8_at, rule8, rule9_at, rule9, rule10_at, rule10, rule11, rule12, rule13, rule14, rules1to6, rules7to14, header_rules, state_rules, verdict_from, verdict}
use Rattle.layout.specs.Answers.{directory_for}
use Rattle.layout.proofs.Laws.{and_T, leb-T, need-accepts, or_else_accepts, first_same, laid_out-take}
use Rattle.layout.proofs.Starts.{mph-length}
use Rattle.layout.proofs.Sound.{entry-at, keeps, both_accept}

-- ---- parts

pub part_of-take : (k off m : ℕ) (l : List ℕ) → off + k ≤ m → take k (drop off (take m l)) ≡ take k (drop off l)
part_of-take k zero m l h = take-take k m l (omega arith)
part_of-take k (suc off) zero l h = absurd (omega arith)
part_of-take k (suc off) (suc m) [] h = refl
part_of-take k (suc off) (suc m) (x ∷ l) h = part_of-take k off m l (omega arith)

-- a part of what two runs of bytes have in common
pub same_part : (b c : List ℕ) (m at w : ℕ) → take m b ≡ take m c → at + w ≤ m → part b at w ≡ part c at w
unfolding part
same_part b c m at w e h = sym (part_of-take w at m b h) ∙ ap (λ (l : List ℕ). take w (drop at l)) e ∙ part_of-take w at m c h

-- the same at each of the numbers in a row
pub map-upto_same : {A : Type 0} (f g : ℕ → A) (i n : ℕ) → ((k : ℕ) → i ≤ k → k < i + n → f k ≡ g k) → map f (upto i n) ≡ map g (upto i n)
map-upto_same f g i zero h = refl
map-upto_same f g i (suc n) h = rw (h i (omega arith) (omega arith), map-upto_same f g (suc i) n (λ k l u. h k (omega arith) (omega arith)))

-- DSDs that they have in common
pub same_entries_from : (b c : List ℕ) (m from n : ℕ) → take m b ≡ take m c → from + 280 * n ≤ m → entries_from b from n ≡ entries_from c from n
unfolding entries_from entry_from
same_entries_from b c m from n e h =
    map-upto_same (entry_from b from) (entry_from c from) 0 n (λ k l u. ap entry_of (same_part b c m (from + 280 * k) 280 e (omega arith)))

-- two answers of which the second is looked at only where the first accepts
or_else_same : (a x y : Answer) → (a ≡ accepted → x ≡ y) → (a or_else x) ≡ (a or_else y)
or_else_same accepted x y h = h refl
or_else_same (refused n p e) x y h = refl

-- ---- what two products agree on

-- the main header and, where SPH_SIZE passes rule 6, the SPH
pub record SameHeaders (b c : List ℕ) (n : ℕ) : Type 0 where
  pub main : take 1247 b ≡ take 1247 c
  pub specific : T (sph_fits b n) → take (headers_end b) b ≡ take (headers_end b) c

module _ (b c : List ℕ) (n : ℕ) (same : SameHeaders b c n) where
  same_number : (key : String) → place_of mph key + width_of mph key ≤ 1247 → header_number b key ≡ header_number c key
  unfolding header_number value_of
  same_number key h = ap number_of (same_part b c 1247 (place_of mph key) (width_of mph key) same.main h)

  pub same_tot_size : tot_size b ≡ tot_size c
  unfolding tot_size place_of width_of mph line_classes value_classes quote_width value_width
  same_tot_size = same_number "TOT_SIZE" (lit≤ tt)

  same_sph_size : sph_size b ≡ sph_size c
  unfolding sph_size place_of width_of mph line_classes value_classes quote_width value_width
  same_sph_size = same_number "SPH_SIZE" (lit≤ tt)

  same_num_dsd : num_dsd b ≡ num_dsd c
  unfolding num_dsd place_of width_of mph line_classes value_classes quote_width value_width
  same_num_dsd = same_number "NUM_DSD" (lit≤ tt)

  same_dsd_size : dsd_size b ≡ dsd_size c
  unfolding dsd_size place_of width_of mph line_classes value_classes quote_width value_width
  same_dsd_size = same_number "DSD_SIZE" (lit≤ tt)

  same_num_data_sets : num_data_sets b ≡ num_data_sets c
  unfolding num_data_sets place_of width_of mph line_classes value_classes quote_width value_width
  same_num_data_sets = same_number "NUM_DATA_SETS" (lit≤ tt)

  pub same_headers_end : headers_end b ≡ headers_end c
  unfolding headers_end
  same_headers_end = rw same_sph_size

  pub same_entries : entries b ≡ entries c
  unfolding entries
  same_entries = ap (λ (v : Number). v.magnitude) same_num_dsd

  same_dsds_at : dsds_at b ≡ dsds_at c
  unfolding dsds_at
  same_dsds_at = rw (same_headers_end, same_entries)

  same_dsd_at : (i : ℕ) → dsd_at b i ≡ dsd_at c i
  unfolding dsd_at
  same_dsd_at i = rw same_dsds_at

  same_rule3 : rule3 b n ≡ rule3 c n
  unfolding rule3
  same_rule3 =
      let l : length (layout mph) ≤ 1247 = omega (arith, mph-length) in
      sym (laid_out-take 3 none (layout mph) b 0 1247 l) ∙ ap (laid_out 3 none 0 (layout mph)) same.main ∙ laid_out-take 3 none (layout mph) c 0 1247 l

  same_rule4 : rule4 b n ≡ rule4 c n
  unfolding rule4
  same_rule4 = rw same_tot_size

  same_rule5 : rule5 b n ≡ rule5 c n
  unfolding rule5
  same_rule5 = rw same_tot_size

  same_rule6 : rule6 b n ≡ rule6 c n
  unfolding rule6 sph_fits dsds_fit
  same_rule6 = rw (same_sph_size, same_headers_end, same_num_dsd, same_entries, same_dsd_size)

  -- ---- behind rule 6

  module _ (six : rule6 b n ≡ accepted) where
    sph_there : T (sph_fits b n)
    unfolding rule6
    sph_there = (simp (or_else_accepts, need-accepts) at six).0

    dsds_there : 280 * entries b ≤ (sph_size b).magnitude
    unfolding rule6 dsds_fit
    dsds_there = (simp (or_else_accepts, need-accepts, and_T, leb-T) at six).1.0.1

    whole-headers : take (headers_end b) b ≡ take (headers_end b) c
    whole-headers = same.specific sph_there

    same_sph_lines : sph_lines b ≡ sph_lines c
    unfolding sph_lines dsds_at headers_end
    same_sph_lines =
        same_part b c (headers_end b) 1247 (dsds_at b - 1247) whole-headers (let d = dsds_there in omega arith)
        ∙ ap (λ (m : ℕ). part c 1247 (m - 1247)) same_dsds_at

    same_dsd_bytes : (i : ℕ) → i < entries b → dsd_bytes b i ≡ dsd_bytes c i
    unfolding dsd_bytes dsd_at dsds_at headers_end
    same_dsd_bytes i l =
        same_part b c (headers_end b) (dsd_at b i) 280 whole-headers (let d = dsds_there in omega arith)
        ∙ ap (λ (m : ℕ). part c m 280) (same_dsd_at i)

    same_entry_at : (i : ℕ) → i < entries b → entry_at b i ≡ entry_at c i
    same_entry_at i l = entry-at b i ∙ ap entry_of (same_dsd_bytes i l) ∙ sym (entry-at c i)

    pub same_directory : directory b ≡ directory c
    unfolding directory dsds_at headers_end
    same_directory =
        same_entries_from b c (headers_end b) (dsds_at b) (entries b) whole-headers (let d = dsds_there in omega arith)
        ∙ rw (same_sph_size, same_entries)

    by_entry : (f g : ℕ → Answer) → ((i : ℕ) → i < entries b → f i ≡ g i) → first f 0 (entries b) ≡ first g 0 (entries c)
    by_entry f g h = first_same f g 0 (entries b) (λ k l u. h k (omega arith)) ∙ ap (first g 0) same_entries

    same_rule7 : rule7 b n ≡ rule7 c n
    unfolding rule7
    same_rule7 = rw same_sph_lines

    same_rule8 : rule8 b n ≡ rule8 c n
    unfolding rule8 rule8_at
    same_rule8 = by_entry (rule8_at b) (rule8_at c) (λ i l. rw (same_dsd_bytes i l, same_dsd_at i))

    same_rule9 : rule9 b n ≡ rule9 c n
    unfolding rule9 rule9_at
    same_rule9 = by_entry (rule9_at b) (rule9_at c) (λ i l. rw (same_entry_at i l, same_dsd_at i))

    same_rule10 : rule10 b n ≡ rule10 c n
    unfolding rule10 rule10_at
    same_rule10 = by_entry (rule10_at b) (rule10_at c) (λ i l. rw (same_entry_at i l, same_dsd_at i))

    same_rule11 : rule11 b n ≡ rule11 c n
    unfolding rule11
    same_rule11 = rw (same_num_data_sets, same_directory)

    same_rule12 : rule12 b n ≡ rule12 c n
    unfolding rule12
    same_rule12 = rw (same_directory, same_headers_end)

    same_rule13 : rule13 b n ≡ rule13 c n
    unfolding rule13
    same_rule13 = simp same_directory

    same_rule14 : rule14 b n ≡ rule14 c n
    unfolding rule14
    same_rule14 = rw (same_directory, same_headers_end)

  same_first : rules1to6 b n ≡ rules1to6 c n
  unfolding rules1to6 rule1 rule2
  same_first = rw (same_rule3, same_rule4, same_rule5, same_rule6)

  rule6-holds : rules1to6 b n ≡ accepted → rule6 b n ≡ accepted
  unfolding rules1to6
  rule6-holds h = (simp or_else_accepts at h).1.1.1.1.1

  same_rest : rule6 b n ≡ accepted → rules7to14 b n ≡ rules7to14 c n
  unfolding rules7to14
  same_rest six =
      rw (same_rule7 six, same_rule8 six, same_rule9 six, same_rule10 six, same_rule11 six, same_rule12 six, same_rule13 six, same_rule14 six)

  -- rules 1 to 14 on a product of n bytes look at its headers alone
  pub same_header_rules : header_rules b n ≡ header_rules c n
  unfolding header_rules
  same_header_rules = or_else_same (rules1to6 b n) (rules7to14 b n) (rules7to14 c n) (λ h. same_rest (rule6-holds h)) ∙ rw same_first

  -- and the verdict at these and the tally
  pub same_verdict_from : (t : Tally) → verdict_from b n t ≡ verdict_from c n t
  unfolding verdict_from
  same_verdict_from t =
      or_else_same (header_rules b n) (state_rules (directory b) t) (state_rules (directory c) t) (λ h. rw (same_directory (keeps b n h).six))
      ∙ rw same_header_rules

-- ---- whole products

module _ (b c : List ℕ) (long : length b ≡ length c) (same : SameHeaders b c (length b))
    (tallies : tally_of (states_of b (directory b)) ≡ tally_of (states_of c (directory c))) where
  pub same_verdict : verdict b ≡ verdict c
  unfolding verdict
  same_verdict = same_verdict_from b c (length b) same (tally_of (states_of b (directory b))) ∙ rw (long, tallies)

  pub same_directories : directory_for (verdict b) b ≡ directory_for (verdict c) c
  same_directories = rw (← same_verdict) (go (verdict b) refl)
    where
      go : (a : Answer) → verdict b ≡ a → directory_for a b ≡ directory_for a c
      go accepted h = rw (same_directory b c (length b) same (keeps b (length b) (both_accept b h).0).six)
      go (refused n p e) h = refl
