-- The spans of a value and of a line, one after another.
-- Assumes nothing.
use Prim.Native.Nat.{ℕ, ◌+◌, ◌-◌, ◌<◌}
use mathlib.Core.Bool.{true, false}
use mathlib.Core.List.{List, [], ◌∷◌}
use mathlib.Core.Path.{◌≡◌, sym, ap, ◌∙◌}
use Rattle.std.specs.Prelude.{Result, Ok, Err}
use native.Mathlib.Omega.{arith}
use lib.ListN.{length, get_or, replicate, length-replicate}
use borrow.Author.Tests.{eq-eqb, ne_eqb}
use Rattle.layout.specs.Text.{Class, exactly, sign, digit, fits, s, s_ab, spare, value_classes, line_classes}
use Rattle.lines.specs.Table.{bad_place, checked}
use Rattle.lines.proofs.Spans.{checked-good, then-good, then-bad, here_good, here_bad}

-- ---- a spare line of n blanks

module _ (b : List ℕ) (n : ℕ) where
  abbrev blanks : List Class
  blanks = replicate n (exactly 32)

  reach : n ≡ 0 + length blanks
  reach = rw (length-replicate n (exactly 32)) (omega arith)

  pub spare_blank : {r : ℕ} → Err r ≡ checked n (bad_place blanks b 0) → Err r ≡ checked (n + 1) (bad_place (line_classes (spare n)) b 0)
  unfolding line_classes
  spare_blank h = then-bad blanks (exactly 10 ∷ []) b 0 n (n + 1) reach (omega arith) h

  module _ {x : Unit {0}} (good : Ok x ≡ checked n (bad_place blanks b 0)) where
    pub spare_ending : (get_or b n 0 ≡ 10 → ⊥) → Err n ≡ checked (n + 1) (bad_place (line_classes (spare n)) b 0)
    unfolding line_classes fits
    spare_ending h = here_bad (exactly 10) [] b n (n + 1) (ne_eqb _ _ h) (omega arith) ∙ sym (then-good blanks (exactly 10 ∷ []) b 0 n (n + 1) reach good)

    pub spare-whole : get_or b n 0 ≡ 10 → Ok tt ≡ checked (n + 1) (bad_place (line_classes (spare n)) b 0)
    unfolding line_classes fits bad_place
    spare-whole h = checked-good (n + 1) _ (here_good (exactly 10) [] b n (n + 1) (eq-eqb _ _ h)) ∙ sym (then-good blanks (exactly 10 ∷ []) b 0 n (n + 1) reach good)

-- ---- a whole number, and one with decimals

module _ (b : List ℕ) (from n to : ℕ) where
  pub whole-bad : fits sign (get_or b from 0) ≡ false → from < to → Err from ≡ checked to (bad_place (value_classes (s n)) b from)
  unfolding value_classes
  whole-bad h l = here_bad sign _ b from to h l

  pub whole-good : {v : Result (Unit {0}) ℕ} → fits sign (get_or b from 0) ≡ true → v ≡ checked to (bad_place (replicate n digit) b (from + 1))
      → v ≡ checked to (bad_place (value_classes (s n)) b from)
  unfolding value_classes
  whole-good h e = e ∙ ap (checked to) (sym (here_good sign _ b from to h))

module _ (b : List ℕ) (from point n to : ℕ) (room : from < point) (inside : point < to) where
  ahead : List Class
  ahead = sign ∷ replicate (point - (from + 1)) digit

  reached : point ≡ from + length ahead
  unfolding ahead
  reached = rw (length-replicate (point - (from + 1)) digit) (omega arith)

  pub decimal-bad : {r : ℕ} → Err r ≡ checked point (bad_place (value_classes (s (point - (from + 1)))) b from)
      → Err r ≡ checked to (bad_place (value_classes (s_ab (point - (from + 1)) n)) b from)
  unfolding value_classes ahead
  decimal-bad h = then-bad ahead (exactly 46 ∷ replicate n digit) b from point to reached (omega arith) h

  module _ {x : Unit {0}} (good : Ok x ≡ checked point (bad_place (value_classes (s (point - (from + 1)))) b from)) where
    pub decimal_point : (get_or b point 0 ≡ 46 → ⊥) → Err point ≡ checked to (bad_place (value_classes (s_ab (point - (from + 1)) n)) b from)
    unfolding value_classes ahead fits
    decimal_point h = here_bad (exactly 46) _ b point to (ne_eqb _ _ h) inside ∙ sym (then-good ahead (exactly 46 ∷ replicate n digit) b from point to reached good)

    pub decimal-good : get_or b point 0 ≡ 46 → {v : Result (Unit {0}) ℕ} → v ≡ checked to (bad_place (replicate n digit) b (point + 1))
        → v ≡ checked to (bad_place (value_classes (s_ab (point - (from + 1)) n)) b from)
    unfolding value_classes ahead fits
    decimal-good h found =
        found ∙ sym (then-good ahead (exactly 46 ∷ replicate n digit) b from point to reached good ∙ ap (checked to) (here_good (exactly 46) _ b point to (eq-eqb _ _ h)))

-- ---- a value of one byte

module _ (b : List ℕ) (from to : ℕ) (k : Class) (w : to - from ≡ 1) where
  pub one-good : fits k (get_or b from 0) ≡ true → Ok tt ≡ checked to (bad_place (k ∷ []) b from)
  unfolding bad_place
  one-good h = checked-good to _ (here_good k [] b from to h ∙ omega arith)

  pub one-bad : fits k (get_or b from 0) ≡ false → Err from ≡ checked to (bad_place (k ∷ []) b from)
  one-bad h = here_bad k [] b from to h (omega arith)
