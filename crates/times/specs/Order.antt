-- Which of two times and of two moments comes first.
-- Assumes nothing.
use Prim.Native.Nat.{compare, Ordering}
use Rattle.std.specs.Prelude.{ℤ, pos, negsuc}
use Rattle.layout.specs.declared.Time.{Time}
use Rattle.calendar.specs.Order.{◌then◌, date_order}
use Rattle.times.specs.declared.Moment.{Moment}

abbrev pub compare_z : ℤ → ℤ → Ordering
compare_z (pos a) (pos b) = compare a b
compare_z (pos a) (negsuc b) = Ordering.gt
compare_z (negsuc a) (pos b) = Ordering.lt
compare_z (negsuc a) (negsuc b) = compare b a

-- by days, seconds and microseconds
unfoldable pub time_order : Time → Time → Ordering
time_order s t = compare_z s.days t.days then compare s.seconds t.seconds then compare s.microseconds t.microseconds

-- by year, month, day, hour, minute, second and microsecond
unfoldable pub moment_order : Moment → Moment → Ordering
moment_order a b =
    date_order a.date b.date
    then compare a.hour b.hour
    then compare a.minute b.minute
    then compare a.second b.second
    then compare a.microsecond b.microsecond
