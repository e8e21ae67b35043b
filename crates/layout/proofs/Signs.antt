-- An error of the program that the workshop bought, ruled out for every DSD: a DSR_SIZE that loses its sign.
-- Assumes nothing.
use Prim.Native.Nat.{ℕ, suc}
use mathlib.Core.Bool.{true}
use mathlib.Core.List.{List, [], ◌∷◌}
use mathlib.Core.Path.{◌≡◌, ◌∙◌}
use native.Mathlib.Omega.{arith}
use lib.ListN.{take, drop, get_or}
use lib.Seq.{get_or-drop}
use borrow.Author.Tests.{eq-eqb}
use Rattle.layout.specs.Bytes.{part, byte_at}
use Rattle.layout.specs.Text.{line_classes, value_classes, value_width, quote_width, place_of, width_of, value_of, number_of}
use Rattle.layout.specs.Lines.{dsd}
use Rattle.layout.specs.Entries.{entry_of}

minus-first : (w : ℕ) (l : List ℕ) → get_or l 0 0 ≡ 45 → (number_of (take (suc w) l)).minus ≡ true
unfolding number_of
minus-first w [] h = absurd (omega arith)
minus-first w (x ∷ xs) h = eq-eqb x 45 h

-- DSR_SIZE's first byte, 228, is its sign
pub minus-kept : (d : List ℕ) → byte_at d 228 ≡ 45 → (entry_of d).record_size.minus ≡ true
unfolding entry_of value_of place_of width_of dsd line_classes value_classes quote_width value_width part byte_at
minus-kept d h = minus-first 10 (drop 228 d) (get_or-drop 228 d 0 0 ∙ h)
