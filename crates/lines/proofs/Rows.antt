-- The spans of a row, and the rows of a table, one after another.
-- Assumes nothing.
use Prim.Native.Nat.{ℕ, ◌+◌, ◌-◌, ◌≤◌, ◌<◌}
use mathlib.Core.List.{List, [], ◌∷◌, ◌++◌}
use mathlib.Core.Path.{◌≡◌, refl, sym, ap, ◌∙◌}
use Rattle.std.specs.Prelude.{Result, Ok, Err}
use native.Mathlib.Omega.{arith}
use native.Mathlib.Numerals.{add-one}
use lib.Dec.{T, leb, eqb→eq, leb→le}
use lib.ListN.{length, drop, get_or, replicate, length-replicate, length-append, length-drop}
use lib.Seq.{drop-cons, length-take-le}
use Rattle.std.proofs.lemmas.List.{drop_all}
use Rattle.layout.specs.Bytes.{part}
use Rattle.layout.specs.Text.{Class, Line, exactly, plain, digit, literal, s, s_ab, value_classes, layout}
use Rattle.layout.proofs.Laws.{and_T}
use Rattle.lines.specs.declared.tables.Kind.{Kind}
use Rattle.lines.specs.declared.tables.Kind.TheVariants.{Text, Spare, Flag, SetType, Whole, Thousandths, Millionths}
use Rattle.lines.specs.declared.tables.Row.{Row}
use Rattle.lines.specs.Table.{bad_place, checked, value_laid, width_fits, value_of, end_of, row_laid, row_fits, rows_laid, rows_fit, table_laid, table_fits, bad_by_table, TableOf}
use Rattle.lines.proofs.Spans.{told-good, after-good, then-good, then-bad, length-literal}

-- ---- how long the spans are

length_span : (t : List ℕ) (from to : ℕ) → from ≤ to → to ≤ length t → length (literal (part t from (to - from))) ≡ to - from
unfolding part
length_span t from to h l = length-literal (part t from (to - from)) ∙ length-take-le (to - from) (drop from t) (rw (length-drop from t) (omega arith))

length_whole : (n : ℕ) → length (value_classes (s n)) ≡ 1 + n
unfolding value_classes
length_whole n = rw (length-replicate n digit) (omega arith)

length-decimal : (a d : ℕ) → length (value_classes (s_ab a d)) ≡ a + (d + 2)
unfolding value_classes
length-decimal a d = rw (length-append (replicate a digit) (exactly 46 ∷ replicate d digit), length-replicate a digit, length-replicate d digit) (omega arith)

length-value : (k : Kind) (w : ℕ) → T (width_fits k w) → length (value_laid k w) ≡ w
unfolding value_laid width_fits
length-value Text w h = length-replicate w plain
length-value Spare w h = length-replicate w (exactly 32)
length-value Flag w h = sym (eqb→eq w 1 h)
length-value SetType w h = sym (eqb→eq w 1 h)
length-value Whole w h = length_whole (w - 1) ∙ omega (arith, leb→le 1 w h)
length-value Thousandths w h = length-decimal (w - 5) 3 ∙ omega (arith, leb→le 5 w h)
length-value Millionths w h = length-decimal (w - 8) 6 ∙ omega (arith, leb→le 8 w h)

-- ---- the spans of a row

-- what a row's test says
pub record Fitting (m from : ℕ) (row : Row) : Type 0 where
  pub before : from ≤ value_of row
  pub inside : end_of row ≤ m
  pub width : T (width_fits row.kind row.width)

pub fitting : (m from : ℕ) (row : Row) → T (row_fits m from row) → Fitting m from row
unfolding row_fits
fitting m from row fit =
    let g = (and_T (leb from (value_of row)) _).0 fit in
    let w = (and_T (leb (end_of row) m) _).0 g.1 in
    record { before = leb→le _ _ g.0; inside = leb→le _ _ w.0; width = w.1 }

module _ (t : List ℕ) (from : ℕ) (row : Row) (fit : T (row_fits (length t) from row)) where
  known : Fitting (length t) from row
  known = fitting (length t) from row fit

  ahead : List Class
  ahead = literal (part t from (value_of row - from))

  across : end_of row - value_of row ≡ row.width
  across = omega arith

  to_value : value_of row ≡ from + length ahead
  unfolding ahead
  to_value = omega (arith, length_span t from (value_of row) known.before (omega (arith, known.inside)), known.before)

  row_end : end_of row ≡ from + length (row_laid t from row)
  unfolding row_laid ahead
  row_end = rw (length-append ahead (value_laid row.kind row.width), length-value row.kind row.width known.width) (omega (arith, to_value))

  pub width_fits_lem : T (width_fits row.kind (end_of row - value_of row))
  width_fits_lem = rw across known.width

  module _ (b : List ℕ) where
    pub row_before : {r : ℕ} → Err r ≡ checked (value_of row) (bad_place (literal (part t from (value_of row - from))) b from)
        → Err r ≡ checked (end_of row) (bad_place (row_laid t from row) b from)
    unfolding ahead row_laid
    row_before h = then-bad ahead _ b from (value_of row) (end_of row) to_value (omega arith) h

    pub row_value : {x : Unit {0}} → Ok x ≡ checked (value_of row) (bad_place (literal (part t from (value_of row - from))) b from)
        → {v : Result (Unit {0}) ℕ} → v ≡ checked (end_of row) (bad_place (value_laid row.kind (end_of row - value_of row)) b (value_of row))
        → v ≡ checked (end_of row) (bad_place (row_laid t from row) b from)
    unfolding ahead row_laid
    row_value good then = then ∙ rw across (sym (then-good ahead _ b from (value_of row) (end_of row) to_value good))

-- ---- the rows of a table

-- the first bad place of the rows is that of the lines whose table it is
pub table_place : (t : List ℕ) (rows : List Row) (b : List ℕ) (ls : List Line) → TableOf ls t rows → bad_by_table t rows b ≡ bad_place (layout ls) b 0
unfolding bad_by_table
table_place t rows b ls so = ap (λ (ks : List Class). bad_place ks b 0) so.laid

-- what the code's reading of a row falls back on
abbrev pub no_row : Row
no_row = record { start = 0; key = 0; kind = Text; width = 0 }

-- before the row i, where the values end at `from`: what is left fits, and decides the whole
pub record Turn (t b : List ℕ) (rows : List Row) (from i : ℕ) : Type 0 where
  pub fits : T (rows_fit (length t) from (drop i rows))
  pub left : bad_by_table t rows b ≡ bad_place (rows_laid t from (drop i rows)) b from

pub turn_start : (t b : List ℕ) (rows : List Row) → T (table_fits t rows) → Turn t b rows 0 0
unfolding table_fits bad_by_table table_laid
turn_start t b rows fit = record { fits = fit; left = refl }

module _ (t b : List ℕ) (rows : List Row) (from i : ℕ) (so : Turn t b rows from i) where
  module _ (h : length rows ≤ i) where
    none : drop i rows ≡ []
    none = drop_all i rows h

    pub turn_inside : from ≤ length t
    unfolding rows_fit
    turn_inside = leb→le _ _ (rw none at so.fits)

    pub turn_end : {v : Result (Unit {0}) ℕ} → v ≡ checked (length t) (bad_place (literal (part t from (length t - from))) b from)
        → v ≡ checked (length t) (bad_by_table t rows b)
    unfolding rows_laid
    turn_end found = found ∙ ap (checked (length t)) (sym (so.left ∙ rw none))

  module _ (h : i < length rows) where
    abbrev row : Row
    row = get_or rows i no_row

    here : drop i rows ≡ row ∷ drop (i + 1) rows
    here = rw (add-one i) (drop-cons rows i no_row h)

    both_fit : T (row_fits (length t) from row) × T (rows_fit (length t) (end_of row) (drop (i + 1) rows))
    unfolding rows_fit
    both_fit = (and_T (row_fits (length t) from row) _).0 (rw here at so.fits)

    both_laid : rows_laid t from (drop i rows) ≡ row_laid t from row ++ rows_laid t (end_of row) (drop (i + 1) rows)
    unfolding rows_laid
    both_laid = rw here

    pub turn_fits : T (row_fits (length t) from row)
    turn_fits = both_fit.0

    pub turn_room : end_of row ≤ length t
    turn_room = (fitting (length t) from row both_fit.0).inside

    reach : end_of row ≡ from + length (row_laid t from row)
    reach = row_end t from row both_fit.0

    pub turn_bad : {r : ℕ} → Err r ≡ checked (end_of row) (bad_place (row_laid t from row) b from) → Err r ≡ checked (length t) (bad_by_table t rows b)
    turn_bad g = rw (so.left, both_laid) (then-bad (row_laid t from row) _ b from _ (length t) reach turn_room g)

    pub turn_good : {x : Unit {0}} → Ok x ≡ checked (end_of row) (bad_place (row_laid t from row) b from) → Turn t b rows (end_of row) (i + 1)
    turn_good g = record { fits = both_fit.1; left = so.left ∙ rw both_laid (after-good (row_laid t from row) _ b from _ reach (told-good _ _ g)) }
