-- The first byte that is not as laid out, by place; the layout that the rows of a table and a template of literal bytes give; and what makes a table that
-- of document 01's lines.
-- Assumes nothing.
use Rattle.std.specs.Prelude.{ℕ, suc, ◌+◌, ◌*◌, ◌-◌, Bool, true, cond, ◌&&◌, List, [], ◌∷◌, ◌++◌, map, ◌≡◌, leb, eqb, length, replicate, Result, Ok, Err}
use Rattle.layout.specs.Bytes.{bytes, part, byte_at}
use Rattle.layout.specs.Answer.{Answer, accepted, refused}
use Rattle.layout.specs.Lines.{size_of_dsd}
use Rattle.layout.specs.Rules.{lines_of}
use Rattle.layout.specs.Search.{laid_out}
use Rattle.layout.specs.Text.{Class, exactly, plain, among, fits, Line, named, spare, s, s_ab, literal, value_classes, layout, value_width, starts_of}
use Rattle.lines.specs.declared.tables.Kind.{Kind}
use Rattle.lines.specs.declared.tables.Kind.TheVariants.{Text, Spare, Flag, SetType, Whole, Thousandths, Millionths}
use Rattle.lines.specs.declared.tables.Row.{Row}

-- the first place from p on whose byte is not of its class; the place behind the classes where each is
unfoldable pub bad_place : List Class → List ℕ → ℕ → ℕ
bad_place [] b p = p
bad_place (k ∷ ks) b p = cond (fits k (byte_at b p)) (bad_place ks b (suc p)) p

-- what a check answers of the first bad place: nothing where it is the end, else the place
unfoldable pub checked : ℕ → ℕ → Result (Unit {0}) ℕ
checked end place = cond (eqb place end) (Ok tt) (Err place)

-- the place is refused with the number n and the entry e
unfoldable pub refused_at : ℕ → ℕ → Result (Unit {0}) ℕ → Answer
refused_at n e (Ok good) = accepted
refused_at n e (Err place) = refused n place e

-- ---- rows

-- the value's classes by its kind and width
unfoldable pub value_laid : Kind → ℕ → List Class
value_laid Text w = replicate w plain
value_laid Spare w = replicate w (exactly 32)
value_laid Flag w = among (bytes "01") ∷ []
value_laid SetType w = among (bytes "MAGR") ∷ []
value_laid Whole w = value_classes (s (w - 1))
value_laid Thousandths w = value_classes (s_ab (w - 5) 3)
value_laid Millionths w = value_classes (s_ab (w - 8) 6)

-- the width is one that the kind can have
unfoldable pub width_fits : Kind → ℕ → Bool
width_fits Text w = true
width_fits Spare w = true
width_fits Flag w = eqb w 1
width_fits SetType w = eqb w 1
width_fits Whole w = leb 1 w
width_fits Thousandths w = leb 5 w
width_fits Millionths w = leb 8 w

-- where a row's value begins and ends
abbrev pub value_of : Row → ℕ
value_of row = row.start + row.key

abbrev pub end_of : Row → ℕ
end_of row = value_of row + row.width

-- a row, with what no value took before it: the template's bytes from there up to the value, and the value
unfoldable pub row_laid : List ℕ → ℕ → Row → List Class
row_laid t from row = literal (part t from (value_of row - from)) ++ value_laid row.kind row.width

-- these follow one another, and end inside a template of m bytes
unfoldable pub row_fits : ℕ → ℕ → Row → Bool
row_fits m from row = leb from (value_of row) && (leb (end_of row) m && width_fits row.kind row.width)

-- ---- tables

-- rows, with what no value took from `from` on, and the rest of the template
unfoldable pub rows_laid : List ℕ → ℕ → List Row → List Class
rows_laid t from [] = literal (part t from (length t - from))
rows_laid t from (row ∷ rows) = row_laid t from row ++ rows_laid t (end_of row) rows

unfoldable pub rows_fit : ℕ → ℕ → List Row → Bool
rows_fit m from [] = leb from m
rows_fit m from (row ∷ rows) = row_fits m from row && rows_fit m (end_of row) rows

-- a table, by its template and rows: the layout that it gives, and the test that it has to pass
unfoldable pub table_laid : List ℕ → List Row → List Class
table_laid t rows = rows_laid t 0 rows

unfoldable pub table_fits : List ℕ → List Row → Bool
table_fits t rows = rows_fit (length t) 0 rows

-- the first place of b that is not as the table lays out; the place behind it where there is none
unfoldable pub bad_by_table : List ℕ → List Row → List ℕ → ℕ
bad_by_table t rows b = bad_place (table_laid t rows) b 0

-- ---- a table of lines of document 01

-- the bytes of a line's value; of a spare, its blanks
unfoldable pub width_in : Line → ℕ
width_in (named k v u) = value_width v
width_in (spare n) = n

-- what makes a table that of these lines: a row for each
pub record TableOf (ls : List Line) (t : List ℕ) (rows : List Row) : Type 0 where
  pub begin : map (λ (row : Row). row.start) rows ≡ starts_of 0 ls  -- which begins where the line does
  pub wide : map (λ (row : Row). row.width) rows ≡ map width_in ls  -- as wide as the line's value
  pub laid : table_laid t rows ≡ layout ls  -- and with the lines' layout, so that kinds, keys and template are right too

-- ---- DSDs

-- the first place of the DSD at a place that is not as laid out; the DSD's end where there is none
unfoldable pub bad_in_dsd : List ℕ → ℕ → ℕ
bad_in_dsd b at = bad_place (layout (lines_of (part b at size_of_dsd))) b at

-- rule 8 of DSD i of those that begin at `from`
unfoldable pub rule8_from : List ℕ → ℕ → ℕ → Answer
rule8_from b from i =
    let at = from + size_of_dsd * i in
    laid_out 8 i at (layout (lines_of (part b at size_of_dsd))) (part b at size_of_dsd)
