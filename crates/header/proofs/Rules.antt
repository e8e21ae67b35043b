-- Rules 1 to 6: what each test of the code says of the rule that it belongs to, their order, and what an accepted header gives.
-- Assumes nothing.
use Prim.Native.Nat.{ℕ, zero, suc, ◌+◌, ◌*◌, ◌≤◌, ◌<◌}
use mathlib.Core.Bool.{Bool, true, false, cond, ◌&&◌}
use mathlib.Core.List.{List}
use mathlib.Core.Path.{◌≡◌, refl, sym, ap, ◌∙◌, subst}
use native.Mathlib.Omega.{arith}
use Rattle.std.specs.Prelude.{Result, Ok, Err}
use lib.Dec.{T, leb, eqb}
use lib.IntN.{ℤ, pos, negsuc, neg_ℤ}
use lib.ListN.{get_or}
use lib.Signed.{mag}
use mir.Syntax.{w8, w64}
use mir.Val.{Fits, to_z, of_z}
use borrow.Author.Tests.{lt-ltb, le-leb, lt-leb, eq-eqb, ne_eqb}
use Rattle.layout.specs.Bytes.{part}
use Rattle.layout.specs.Text.{number_of, whole, layout}
use Rattle.layout.specs.Lines.{mph}
use Rattle.layout.specs.Answer.{Answer, accepted, refused, need, ◌or_else◌}
use Rattle.layout.specs.Search.{laid_out}
use Rattle.layout.specs.Entries.{eq_z, within_z}
use Rattle.layout.specs.Rules.{rule1, rule2, rule3, rule4, rule5, rule6, sph_fits, dsds_fit, rules1to6}
use Rattle.layout.specs.Answers.{verdict_is}
use Rattle.layout.specs.declared.Refusal.{Refusal}
use Rattle.layout.proofs.Laws.{and_T, leb-T, need-accepts, or_else_accepts, or_else_assoc}
use Rattle.layout.proofs.Replies.{handed_on}
use Rattle.text.specs.Numbers.{number_in, whole_in}
use Rattle.text.specs.declared.Number.{Number as HeldNumber}
use Rattle.text.proofs.Laws.{magnitude_test, whole_true}
use Rattle.header.specs.Checks.{length_rules, total_rules, HeadersFit, CheckedBy}
use Rattle.header.specs.declared.HeaderCheck.{HeaderCheck}
use Rattle.values.proofs.Places.{total_at, sph_at, dsds-at, dsd-size-at, headers_end-at, entries_at}
use Rattle.values.proofs.Values.{kept, held_fits, held_true}

-- ---- a refusal with what it is of, and a good header with what it gives

pub refuses : (rules : Answer) (b : List ℕ) (n : ℕ) (f : Refusal) (r : Result HeaderCheck Refusal) → r ≡ Err f → refused f.number f.place f.entry ≡ rules → CheckedBy rules b n r
unfolding verdict_is
refuses rules b n f r e h = rw e (record { verdict-is = h; headers = λ x q. cc })

accepts : (rules : Answer) (b : List ℕ) (n : ℕ) (x : HeaderCheck) → accepted ≡ rules → HeadersFit b n x → CheckedBy rules b n (Ok x)
unfolding verdict_is
accepts rules b n x good fit = record { verdict-is = good; headers = λ h q. let e : x ≡ h = cc in subst (λ (y : HeaderCheck). HeadersFit b n y) e fit }

-- ---- an i64 beside a number that is not negative

word_same : (z : ℤ) (n : ℕ) → mag z < 9223372036854775808 → n < 9223372036854775808 → of_z w64 z ≡ n → eq_z z (pos n) ≡ true
word_same z n h l e = let same : z ≡ pos n = sym (kept h) ∙ ap (to_z w64) e ∙ simp (lt-ltb n 9223372036854775808 l) in rw same (eq-eqb n n refl)

word-other : (z : ℤ) (n : ℕ) → (of_z w64 z ≡ n → ⊥) → eq_z z (pos n) ≡ false
word-other (pos m) n h = ne_eqb m n (λ e. h (ap (λ (k : ℕ). of_z w64 (pos k)) e))
word-other (negsuc m) n h = refl

-- ---- 0 to a number

module _ (most : ℕ) (m : HeldNumber) where
  pub within_minus : m.minus ≡ true → eqb m.magnitude 0 ≡ within_z (pos 0) (pos most) (whole_in m)
  unfolding whole_in
  within_minus h = rw h (go m.magnitude)
    where
      go : (k : ℕ) → eqb k 0 ≡ within_z (pos 0) (pos most) (neg_ℤ (pos k))
      go zero = sym (le-leb 0 most (omega arith))
      go (suc k) = ne_eqb (suc k) 0 (λ e. absurd (omega (arith, e)))

  pub within_plus : m.minus ≡ false → leb m.magnitude most ≡ within_z (pos 0) (pos most) (whole_in m)
  unfolding whole_in
  within_plus h = rw (h, le-leb 0 m.magnitude (omega arith))

within-most : (t : Bool) (k most : ℕ) → T (within_z (pos 0) (pos most) (cond t (neg_ℤ (pos k)) (pos k))) → k ≤ most
within-most true zero most h = omega arith
within-most true (suc k) most h = absurd h
within-most false k most h = (leb-T k most).0 ((and_T (leb 0 k) (leb k most)).0 h).1

pub held_most : (m : HeldNumber) (most : ℕ) → within_z (pos 0) (pos most) (whole_in m) ≡ true → m.magnitude ≤ most
unfolding whole_in
held_most m most e = within-most m.minus m.magnitude most (rw e tt)

-- what it says that a test of a number and of a sum passed
pub held_fit : (m : HeldNumber) (most a n : ℕ) (t : Bool) → t ≡ (within_z (pos 0) (pos most) (whole_in m) && leb a n) → t ≡ true → (m.magnitude ≤ most) × (a ≤ n)
unfolding whole_in
held_fit m most a n t told good =
    let both = (and_T (within_z (pos 0) (pos most) (whole_in m)) (leb a n)).0 (subst T (sym good ∙ told) tt) in
    (within-most m.minus m.magnitude most both.0, (leb-T a n).0 both.1)

-- ---- rules 4 and 5

module _ (b : List ℕ) (n : ℕ) (total : HeldNumber) (total-is : total ≡ number_in b 1075 21) where
  four_told : (t : Bool) → leb total.magnitude 9223372036854775807 ≡ t → rule4 b n ≡ need t 4 1075 128
  unfolding rule4
  four_told t h = rw (total_at b, ← magnitude_test b 1075 21, ← total-is, h)

  pub total_over : 9223372036854775807 < total.magnitude → refused 4 1075 128 ≡ total_rules b n
  unfolding total_rules
  total_over h = rw (four_told false (lt-leb total.magnitude 9223372036854775807 h))

  module _ (fits : total.magnitude ≤ 9223372036854775807) (held : ℤ) (held-is : held ≡ whole_in total) where
    five_told : (t : Bool) → eq_z held (pos n) ≡ t → total_rules b n ≡ need t 5 1075 128
    unfolding total_rules rule5
    five_told t h =
        let true_whole = whole_true b 1075 21 (subst (λ (m : HeldNumber). m.magnitude ≤ 9223372036854775807) total-is fits) in
        rw (four_told true (le-leb total.magnitude 9223372036854775807 fits), total_at b, ← true_whole, ← total-is, ← held-is, h)

    pub total_other : (of_z w64 held ≡ n → ⊥) → refused 5 1075 128 ≡ total_rules b n
    total_other h = sym (five_told false (word-other held n h))

    pub total_same : mag held < 9223372036854775808 → n < 9223372036854775808 → of_z w64 held ≡ n → accepted ≡ total_rules b n
    total_same in_word l h = sym (five_told true (word_same held n in_word l h))

-- ---- rule 6

-- a sign and ten digits are held as they are
module _ (b : List ℕ) (bytes : (k : ℕ) → Fits w8 (get_or b k 0)) (at : ℕ) (m : HeldNumber) (e : m ≡ number_in b at 11) where
  ten-held : m.magnitude ≡ (number_of (part b at 11)).magnitude
  ten-held = ap (λ (x : HeldNumber). x.magnitude) e ∙ held_true b at 11 (λ k. (bytes k).fits) (omega arith)

  ten-whole : whole_in m ≡ whole (number_of (part b at 11))
  ten-whole = ap whole_in e ∙ whole_true b at 11 (held_fits b at 11 (λ k. (bytes k).fits) (omega arith))

module _ (b : List ℕ) (bytes : (k : ℕ) → Fits w8 (get_or b k 0)) (n : ℕ) (sph-size : HeldNumber) (sph-is : sph-size ≡ number_in b 1113 11)
    (sph : Bool) (sph-tested : sph ≡ (within_z (pos 0) (pos 49152) (whole_in sph-size) && leb (1247 + sph-size.magnitude) n)) where
  sph_told : sph_fits b n ≡ sph
  unfolding sph_fits
  sph_told = sym (sph-tested ∙ rw (ten-whole b bytes 1113 sph-size sph-is, ten-held b bytes 1113 sph-size sph-is, sph_at b, headers_end-at b))

  pub sph_refused : sph ≡ false → refused 6 1113 128 ≡ rule6 b n
  unfolding rule6
  sph_refused h = rw (sph_told, h)

  module _ (sph-good : sph ≡ true) (num-dsd : HeldNumber) (num-is : num-dsd ≡ number_in b 1140 11)
      (dsds : Bool) (dsds-tested : dsds ≡ (within_z (pos 0) (pos 128) (whole_in num-dsd) && leb (280 * num-dsd.magnitude) sph-size.magnitude)) where
    dsds_told : dsds_fit b ≡ dsds
    unfolding dsds_fit
    dsds_told =
        sym (dsds-tested ∙ rw (ten-whole b bytes 1140 num-dsd num-is, ten-held b bytes 1140 num-dsd num-is, ten-held b bytes 1113 sph-size sph-is, dsds-at b, entries_at b, sph_at b))

    pub dsds_refused : dsds ≡ false → refused 6 1140 128 ≡ rule6 b n
    unfolding rule6
    dsds_refused h = rw (sph_told, sph-good, dsds_told, h)

    module _ (dsds-good : dsds ≡ true) (size : ℤ) (size-is : size ≡ whole (number_of (part b 1161 11))) where
      sizes_told : (t : Bool) → eq_z size (pos 280) ≡ t → rule6 b n ≡ need t 6 1161 128
      unfolding rule6
      sizes_told t h = rw (sph_told, sph-good, dsds_told, dsds-good, dsd-size-at b, ← size-is, h)

      pub dsd_size_refused : (of_z w64 size ≡ 280 → ⊥) → refused 6 1161 128 ≡ rule6 b n
      dsd_size_refused h = sym (sizes_told false (word-other size 280 h))

      pub sizes_good : mag size < 9223372036854775808 → of_z w64 size ≡ 280
          → CheckedBy (rule6 b n) b n (Ok (record { headers_end = 1247 + sph-size.magnitude; entries = num-dsd.magnitude }))
      sizes_good in_word h =
          let fit = held_fit sph-size 49152 (1247 + sph-size.magnitude) n sph sph-tested sph-good in
          let room = held_fit num-dsd 128 (280 * num-dsd.magnitude) sph-size.magnitude dsds dsds-tested dsds-good in
          accepts (rule6 b n) b n _ (sym (sizes_told true (word_same size 280 in_word (omega arith) h))) (record {
            end_is = ap (λ (m : ℕ). 1247 + m) (ten-held b bytes 1113 sph-size sph-is) ∙ sym (headers_end-at b);
            entries-are = ten-held b bytes 1140 num-dsd num-is ∙ sym (entries_at b);
            inside = fit.1;
            entries-most = room.0;
            dsds-fit = omega (arith, room.1);
            end_most = omega (arith, fit.0);
          })

-- ---- their order

pub in_groups : (b : List ℕ) (n : ℕ) → rules1to6 b n ≡ (length_rules n or_else laid_out 3 128 0 (layout mph) b or_else total_rules b n or_else rule6 b n)
unfolding rules1to6 length_rules total_rules rule1 rule2 rule3
in_groups b n = rw (or_else_assoc (rule4 b n) (rule5 b n) (rule6 b n), or_else_assoc (need (leb 1247 n) 1 n 128))

pub length_good : (n : ℕ) → length_rules n ≡ accepted → (1247 ≤ n) × (n ≤ 2147483647)
unfolding length_rules rule1 rule2
length_good n h =
    let both = (or_else_accepts (need (leb 1247 n) 1 n 128) (need (leb n 2147483647) 2 0 128)).0 h in
    ((leb-T 1247 n).0 ((need-accepts (leb 1247 n) 1 n 128).0 both.0), (leb-T n 2147483647).0 ((need-accepts (leb n 2147483647) 2 0 128).0 both.1))

-- what a check of the code needs of all this, where it is not answered
pub ruleset told = (handed_on, within_minus, within_plus, held_most, held_fit, total_over, total_other, total_same, sph_refused, dsds_refused, dsd_size_refused, refuses, in_groups, length_good)
