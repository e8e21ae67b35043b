-- Which of two dates comes first (document 02, order 14, compares times).
-- Assumes nothing.
use Prim.Native.Nat.{compare, Ordering}
use Rattle.calendar.specs.declared.Date.{Date}

-- the first comparison, and where it finds no difference the second
abbrev pub ◌then◌ : Ordering → Ordering → Ordering
Ordering.lt then o = Ordering.lt
Ordering.eq then o = o
Ordering.gt then o = Ordering.gt

infixr 35 ◌then◌
-- by year, month and day
unfoldable pub date_order : Date → Date → Ordering
date_order a b = compare a.year b.year then compare a.month b.month then compare a.day b.day
