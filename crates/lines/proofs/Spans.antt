-- The laws of the first bad place, and of what a check answers of it: one span after another, and a span as a search.
-- Assumes nothing.
use Prim.Native.Nat.{ℕ, zero, suc, ◌+◌, ◌-◌, ◌≤◌, ◌<◌}
use Rattle.std.specs.Prelude.{Result, Ok, Err, IsErr, IsErrAnd}
use Rattle.std.proofs.lemmas.Result.{err_from_is_err_and}
use Rattle.std.proofs.lemmas.Bool.{eqb-true}
use lib.Dec.{eqb}
use mathlib.Core.Bool.{Bool, true, false, cond, not, true≢false}
use mathlib.Core.List.{List, [], ◌∷◌, ◌++◌}
use mathlib.Core.Path.{◌≡◌, refl, sym, ap, ◌∙◌}
use native.Mathlib.Omega.{arith}
use native.Mathlib.Numerals.{add-one}
use lib.ListN.{length, get_or, replicate}
use lib.Seq.{drop-cons}
use borrow.Author.Tests.{eq-eqb, ne_eqb}
use Rattle.layout.specs.Bytes.{part, byte_at}
use Rattle.layout.specs.Text.{Class, exactly, fits, literal}
use Rattle.layout.specs.Search.{find}
use Rattle.text.specs.Blanks.{not_blank}
use Rattle.text.specs.Runs.{fails}
use Rattle.lines.specs.Table.{bad_place, checked}

-- the first bad place lies in the layout or right behind it
pub bad_bounds : (ks : List Class) (b : List ℕ) (p : ℕ) → (p ≤ bad_place ks b p) × (bad_place ks b p ≤ p + length ks)
unfolding bad_place
bad_bounds [] b p = (omega arith, omega arith)
bad_bounds (k ∷ ks) b p = go (fits k (byte_at b p)) (bad_bounds ks b (suc p))
  where
    go : (t : Bool) → (suc p ≤ bad_place ks b (suc p)) × (bad_place ks b (suc p) ≤ suc p + length ks)
        → (p ≤ cond t (bad_place ks b (suc p)) p) × (cond t (bad_place ks b (suc p)) p ≤ p + suc (length ks))
    go true h = (omega (arith, h.0), omega (arith, h.1))
    go false h = (omega arith, omega arith)

-- ---- what a check answers

module _ (end place : ℕ) where
  pub checked-good : place ≡ end → Ok (tt {0}) ≡ checked end place
  unfolding checked
  checked-good h = rw (eq-eqb place end h)

  pub checked-bad : {r : ℕ} → r ≡ place → (r ≡ end → ⊥) → Err r ≡ checked end place
  unfolding checked
  checked-bad {r} e h = rw (← e, ne_eqb r end h)

  pub told-good : {x : Unit {0}} → Ok x ≡ checked end place → place ≡ end
  unfolding checked
  told-good h = go (eqb place end) refl h
    where
      go : (t : Bool) → eqb place end ≡ t → {x : Unit {0}} → Ok x ≡ cond t (Ok (tt {0})) (Err place) → place ≡ end
      go true q h = eqb-true place end q
      go false q h = let z : ◌≡◌ {A = ℕ} 0 1 = cc in absurd (omega arith)

  pub told-bad : {r : ℕ} → Err r ≡ checked end place → (r ≡ place) × (place ≡ end → ⊥)
  unfolding checked
  told-bad h = go (eqb place end) refl h
    where
      go : (t : Bool) → eqb place end ≡ t → {r : ℕ} → Err r ≡ cond t (Ok (tt {0})) (Err place) → (r ≡ place) × (place ≡ end → ⊥)
      go true q h = let z : ◌≡◌ {A = ℕ} 0 1 = cc in absurd (omega arith)
      go false q h = (cc, λ e. absurd (true≢false (sym (eq-eqb place end e) ∙ q)))

-- what a `?` hands on is the place that it met
pub handed : (r : Result (Unit {0}) ℕ) (f : ℕ) → IsErr r × IsErrAnd r (λ g. g ≡ f) → r ≡ Err f
handed r f h = let e = err_from_is_err_and r h.1 in e.1 ∙ ap Err e.2

-- ---- one layout after another

pub after-good : (ks js : List Class) (b : List ℕ) (p e : ℕ) → e ≡ p + length ks → bad_place ks b p ≡ e → bad_place (ks ++ js) b p ≡ bad_place js b e
unfolding bad_place
after-good [] js b p e q h = rw h
after-good (k ∷ ks) js b p e q h = go (fits k (byte_at b p)) h (after-good ks js b (suc p) e (omega arith))
  where
    go : (t : Bool) → cond t (bad_place ks b (suc p)) p ≡ e → (bad_place ks b (suc p) ≡ e → bad_place (ks ++ js) b (suc p) ≡ bad_place js b e)
        → cond t (bad_place (ks ++ js) b (suc p)) p ≡ bad_place js b e
    go true h below = below h
    go false h below = absurd (omega arith)

after-bad : (ks js : List Class) (b : List ℕ) (p e : ℕ) → e ≡ p + length ks → (bad_place ks b p ≡ e → ⊥) → bad_place (ks ++ js) b p ≡ bad_place ks b p
unfolding bad_place
after-bad [] js b p e q h = absurd (h (omega arith))
after-bad (k ∷ ks) js b p e q h = go (fits k (byte_at b p)) h (after-bad ks js b (suc p) e (omega arith))
  where
    go : (t : Bool) → (cond t (bad_place ks b (suc p)) p ≡ e → ⊥) → ((bad_place ks b (suc p) ≡ e → ⊥) → bad_place (ks ++ js) b (suc p) ≡ bad_place ks b (suc p))
        → cond t (bad_place (ks ++ js) b (suc p)) p ≡ cond t (bad_place ks b (suc p)) p
    go true h below = below h
    go false h below = refl

module _ (ks js : List Class) (b : List ℕ) (p e to : ℕ) (reach : e ≡ p + length ks) where
  -- the first is good whole: the second decides
  pub then-good : {x : Unit {0}} → Ok x ≡ checked e (bad_place ks b p) → checked to (bad_place (ks ++ js) b p) ≡ checked to (bad_place js b e)
  then-good h = ap (checked to) (after-good ks js b p e reach (told-good _ _ h))

  -- the first is bad somewhere: there
  pub then-bad : e ≤ to → {r : ℕ} → Err r ≡ checked e (bad_place ks b p) → Err r ≡ checked to (bad_place (ks ++ js) b p)
  then-bad l {r} h =
      let told = told-bad _ _ h in
      checked-bad _ _ (told.0 ∙ sym (after-bad ks js b p e reach told.1)) (let most = (bad_bounds ks b p).1 in λ q. told.1 (omega (arith, told.0, most)))

-- ---- one byte of a layout

module _ (k : Class) (ks : List Class) (b : List ℕ) (p to : ℕ) where
  pub here_good : fits k (get_or b p 0) ≡ true → bad_place (k ∷ ks) b p ≡ bad_place ks b (p + 1)
  unfolding bad_place byte_at
  here_good h = rw (h, add-one p)

  pub here_bad : fits k (get_or b p 0) ≡ false → p < to → Err p ≡ checked to (bad_place (k ∷ ks) b p)
  unfolding bad_place byte_at
  here_bad h l = checked-bad to _ (rw h) (λ q. omega arith)

-- ---- a span as a search for the first bad byte

other : (u : Bool) (rest here : ℕ) → cond (not u) here rest ≡ cond u rest here
other true rest here = refl
other false rest here = refl

run_bad : (k : Class) (b : List ℕ) (p n : ℕ) → find (fails (fits k) b) p n ≡ bad_place (replicate n k) b p
unfolding find bad_place fails
run_bad k b p zero = refl
run_bad k b p (suc n) = rw (run_bad k b (suc p) n) (other (fits k (byte_at b p)) (bad_place (replicate n k) b (suc p)) p)

blanks-bad : (b : List ℕ) (p n : ℕ) → find (not_blank b) p n ≡ bad_place (replicate n (exactly 32)) b p
unfolding not_blank fails fits
blanks-bad b p n = run_bad (exactly 32) b p n

-- r is what the search found, and v the check's answer
module _ (b : List ℕ) (from n to r : ℕ) (v : Result (Unit {0}) ℕ) (told : v ≡ checked to r) where
  pub run-checked : (k : Class) → r ≡ find (fails (fits k) b) from n → v ≡ checked to (bad_place (replicate n k) b from)
  run-checked k found = told ∙ ap (checked to) (found ∙ run_bad k b from n)

  pub blanks-checked : r ≡ find (not_blank b) from n → v ≡ checked to (bad_place (replicate n (exactly 32)) b from)
  blanks-checked found = told ∙ ap (checked to) (found ∙ blanks-bad b from n)

pub length-literal : (xs : List ℕ) → length (literal xs) ≡ length xs
length-literal [] = refl
length-literal (x ∷ xs) = ap suc (length-literal xs)

-- a span of the template's bytes, of which those before i are good
module _ (t b : List ℕ) (i to : ℕ) where
  abbrev left : ℕ
  left = bad_place (literal (part t i (to - i))) b i

  pub span_end : i ≤ to → to ≤ i → Ok (tt {0}) ≡ checked to left
  unfolding bad_place part
  span_end h l = let q : to - i ≡ 0 = omega arith in checked-good to _ (rw q (omega arith))

  module _ (h : i < to) (l : to ≤ length t) where
    here : part t i (to - i) ≡ get_or t i 0 ∷ part t (i + 1) (to - (i + 1))
    unfolding part
    here = let q : to - i ≡ suc (to - (i + 1)) = omega arith in rw (q, drop-cons t i 0 (omega arith), add-one i)

    pub span_bad : (get_or b i 0 ≡ get_or t i 0 → ⊥) → Err i ≡ checked to left
    unfolding fits
    span_bad e = rw here (here_bad (exactly (get_or t i 0)) _ b i to (ne_eqb (get_or b i 0) (get_or t i 0) e) h)

    pub span_good : get_or b i 0 ≡ get_or t i 0 → left ≡ bad_place (literal (part t (i + 1) (to - (i + 1)))) b (i + 1)
    unfolding fits
    span_good e = rw here (here_good (exactly (get_or t i 0)) _ b i to (eq-eqb (get_or b i 0) (get_or t i 0) e))
