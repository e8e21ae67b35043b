-- What the first bad place of a whole header says: the answer of its layout, for the main header, for a DSD and for one DSD after another.
-- Assumes nothing.
use Prim.Native.Nat.{ℕ, suc, ◌+◌, ◌*◌, ◌-◌, ◌≤◌, ◌<◌}
use mathlib.Core.Bool.{Bool, true, false, cond}
use mathlib.Core.List.{List, [], ◌∷◌}
use mathlib.Core.Path.{◌≡◌, refl, sym, ap, ◌∙◌}
use Rattle.std.specs.Prelude.{Result, Ok, Err}
use native.Mathlib.Omega.{arith}
use native.Mathlib.Nat.{add-zero, add-suc, suc-add}
use lib.ListN.{length, take, drop, get_or, length-drop}
use lib.Seq.{drop-cons, length-take-le, take_all}
use borrow.Author.Tests.{eq-eqb, ne_eqb}
use Rattle.layout.specs.Bytes.{part, byte_at}
use Rattle.layout.specs.Text.{Class, fits, layout}
use Rattle.layout.specs.Lines.{size_of_dsd, dsd, spare_dsd}
use Rattle.layout.specs.Rules.{lines_of}
use Rattle.layout.specs.Answer.{Answer, accepted, refused, need, ◌or_else◌}
use Rattle.layout.specs.Search.{first, laid_out}
use Rattle.layout.proofs.Laws.{first_step, laid_out-take}
use Rattle.layout.proofs.Starts.{lines_length}
use Rattle.text.proofs.Parts.{byte_part}
use Rattle.lines.specs.Table.{bad_place, checked, refused_at, bad_in_dsd, rule8_from}
use Rattle.lines.proofs.Spans.{checked-good, checked-bad, told-good, told-bad, bad_bounds}

answer : (n e : ℕ) (ks : List Class) (b : List ℕ) (p : ℕ) → p + length ks ≤ length b
    → laid_out n e p ks (drop p b) ≡ refused_at n e (checked (p + length ks) (bad_place ks b p))
unfolding laid_out bad_place byte_at checked refused_at
answer n e [] b p h = rw (add-zero p, eq-eqb p p refl)
answer n e (k ∷ ks) b p h =
    rw (drop-cons b p 0 (omega arith), answer n e ks b (suc p) (omega arith), add-suc p (length ks), suc-add p (length ks))
    (go (fits k (get_or b p 0)) refl)
  where
    go : (t : Bool) → fits k (get_or b p 0) ≡ t
        → (need t n p e or_else refused_at n e (checked (suc (p + length ks)) (bad_place ks b (suc p))))
        ≡ refused_at n e (checked (suc (p + length ks)) (cond t (bad_place ks b (suc p)) p))
    go true q = refl
    go false q = rw (ne_eqb p (suc (p + length ks)) (λ m. omega arith))

-- m is the place behind the layout
pub header_answer : (n e : ℕ) (ks : List Class) (b : List ℕ) (p m : ℕ) (v : Result (Unit {0}) ℕ) → v ≡ checked m (bad_place ks b p) → p + length ks ≡ m → m ≤ length b
    → laid_out n e p ks (drop p b) ≡ refused_at n e v
header_answer n e ks b p m v found q h = rw (found, ← q) (answer n e ks b p (omega arith))

-- ---- a DSD

module _ (b : List ℕ) where
  first_byte : byte_at (part b 0 size_of_dsd) 0 ≡ get_or b 0 0
  unfolding byte_at
  first_byte = byte_part b 0 size_of_dsd 0 (omega arith)

  pub bad-spare : {v : Result (Unit {0}) ℕ} → get_or b 0 0 ≡ 32 → v ≡ checked size_of_dsd (bad_place (layout spare_dsd) b 0) → v ≡ checked size_of_dsd (bad_in_dsd b 0)
  unfolding bad_in_dsd lines_of
  bad-spare h found = rw (first_byte, h) found

  pub bad-dsd : {v : Result (Unit {0}) ℕ} → (get_or b 0 0 ≡ 32 → ⊥) → v ≡ checked size_of_dsd (bad_place (layout dsd) b 0) → v ≡ checked size_of_dsd (bad_in_dsd b 0)
  unfolding bad_in_dsd lines_of
  bad-dsd h found = rw (first_byte, ne_eqb (get_or b 0 0) 32 h) found

  pub dsd-inside : {r : ℕ} → Err r ≡ checked size_of_dsd (bad_in_dsd b 0) → r ≤ size_of_dsd
  unfolding bad_in_dsd
  dsd-inside found = omega (arith, (told-bad _ _ found).0, lines_length (part b 0 size_of_dsd), (bad_bounds (layout (lines_of (part b 0 size_of_dsd))) b 0).1)

-- ---- rule 8

part-bad : (b : List ℕ) (at : ℕ) (ks : List Class) (p n : ℕ) → p + length ks ≤ n → at + bad_place ks (part b at n) p ≡ bad_place ks b (at + p)
unfolding bad_place
part-bad b at [] p n h = refl
part-bad b at (k ∷ ks) p n h = rw (byte_part b at n p (omega arith)) (go (fits k (byte_at b (at + p))) (part-bad b at ks (suc p) n (omega arith)))
  where
    go : (u : Bool) → at + bad_place ks (part b at n) (suc p) ≡ bad_place ks b (at + suc p) → at + cond u (bad_place ks (part b at n) (suc p)) p ≡ cond u (bad_place ks b (suc (at + p))) (at + p)
    go true e = e ∙ rw (add-suc at p)
    go false e = refl

-- DSD i, lent by itself
module _ (b : List ℕ) (from i : ℕ) (h : from + size_of_dsd * i + size_of_dsd ≤ length b) where
  abbrev at : ℕ
  at = from + size_of_dsd * i

  abbrev bad : ℕ
  bad = bad_in_dsd (take (at + size_of_dsd - at) (drop at b)) 0

  dsd-answer : rule8_from b from i ≡ refused_at 8 i (checked (at + size_of_dsd) (at + bad))
  unfolding rule8_from bad_in_dsd part
  dsd-answer =
      let ks = layout (lines_of (part b at size_of_dsd)) in
      let long : length ks ≡ size_of_dsd = lines_length (part b at size_of_dsd) in
      let q : at + size_of_dsd - at ≡ size_of_dsd = omega arith in
      let place : at + bad ≡ bad_place ks b at = rw (q, take_all size_of_dsd (take size_of_dsd (drop at b)) (omega (arith, length-take-le size_of_dsd (drop at b) (rw (length-drop at b) (omega arith))))) (part-bad b at ks 0 size_of_dsd (omega arith) ∙ rw (add-zero at)) in
      laid_out-take 8 i ks (drop at b) at size_of_dsd (omega arith) ∙ header_answer 8 i ks b at (at + size_of_dsd) _ (ap (checked (at + size_of_dsd)) place) (omega arith) h

  pub dsd-refused : {r : ℕ} → Err r ≡ checked size_of_dsd bad → rule8_from b from i ≡ refused 8 (at + r) i
  unfolding refused_at
  dsd-refused found =
      let told = told-bad _ _ found in
      dsd-answer ∙ ap (refused_at 8 i) (sym (checked-bad (at + size_of_dsd) _ (ap (λ (m : ℕ). at + m) told.0) (λ q. told.1 (omega (arith, told.0)))))

  pub dsd-accepted : {x : Unit {0}} → Ok x ≡ checked size_of_dsd bad → rule8_from b from i ≡ accepted
  unfolding refused_at
  dsd-accepted found = dsd-answer ∙ ap (refused_at 8 i) (sym (checked-good (at + size_of_dsd) _ (ap (λ (m : ℕ). at + m) (told-good _ _ found))))

-- what is left of the search from i on is the whole
module _ (f : ℕ → Answer) (n i : ℕ) (so : first f 0 n ≡ first f i (n - i)) where
  pub left-refused : i < n → {m p e : ℕ} → f i ≡ refused m p e → first f 0 n ≡ refused m p e
  left-refused h q = so ∙ first_step f i n h ∙ rw q

  pub left-next : i < n → f i ≡ accepted → first f 0 n ≡ first f (i + 1) (n - (i + 1))
  left-next h q = so ∙ first_step f i n h ∙ rw q

  pub left_end : n ≤ i → first f 0 n ≡ accepted
  unfolding first
  left_end h = let q : n - i ≡ 0 = omega arith in so ∙ rw q
