-- Times are in the order of their moments, so two moments with one time are one.
-- Assumes nothing.
use Prim.Native.Nat.{ℕ, zero, suc, ◌+◌, ◌*◌, ◌-◌, ◌≤◌, ◌<◌, compare, Ordering}
use mathlib.Core.Bool.{Bool, true, false, cond}
use mathlib.Core.Logic.{◌⊎◌, inl, inr}
use mathlib.Core.Path.{◌≡◌, refl, sym, ap, ◌∙◌}
use native.Mathlib.Omega.{arith}
use native.Mathlib.Nat.{add-zero}
use lib.Dec.{ltb}
use lib.IntN.{ℤ, pos, negsuc, ◌-ℤ◌}
use borrow.Author.Tests.{ltb-true, ltb-false}
use Rattle.layout.specs.declared.Time.{Time}
use Rattle.layout.proofs.Laws.{lt-or-le}
use Rattle.calendar.specs.declared.Date.{Date}
use Rattle.calendar.specs.Calendar.{days_before, day_zero, day_number}
use Rattle.calendar.specs.Order.{◌then◌, date_order}
use Rattle.calendar.proofs.Order.{compare_less, compare_more, compare_same, same_number, then_assoc, both_same, in_turn, dates_in_turn}
use Rattle.times.specs.declared.Moment.{Moment}
use Rattle.times.specs.Times.{time_of}
use Rattle.times.specs.Order.{compare_z, time_order, moment_order}
use Rattle.times.proofs.Moments.{Valid}

-- ---- day numbers

same_compare : (a b c d : ℕ) → (a < b → c < d) → (b < a → d < c) → (a ≡ b → c ≡ d) → compare a b ≡ compare c d
same_compare a b c d less more same = go (lt-or-le a b) (lt-or-le b a)
  where
    go : (a < b) ⊎ (b ≤ a) → (b < a) ⊎ (a ≤ b) → compare a b ≡ compare c d
    go (inl l) m = compare_less a b l ∙ sym (compare_less c d (less l))
    go (inr l) (inl m) = compare_more a b m ∙ sym (compare_more c d (more m))
    go (inr l) (inr m) = let e : a ≡ b = omega arith in rw (e, same e, compare_same b, compare_same d)

-- both counted from one day
pub from_day : (x y k : ℕ) → compare_z (pos x -ℤ pos k) (pos y -ℤ pos k) ≡ compare x y
from_day x y zero = rw (add-zero x, add-zero y)
from_day x y (suc k) = go (ltb x (suc k)) refl (ltb y (suc k)) refl
  where
    go : (t : Bool) → ltb x (suc k) ≡ t → (u : Bool) → ltb y (suc k) ≡ u
        → compare_z (cond t (negsuc (suc k - suc x)) (pos (x - suc k))) (cond u (negsuc (suc k - suc y)) (pos (y - suc k))) ≡ compare x y
    go true e true f =
        let l = ltb-true x (suc k) e in
        let m = ltb-true y (suc k) f in
        same_compare (suc k - suc y) (suc k - suc x) x y (λ h. omega arith) (λ h. omega arith) (λ h. omega arith)
    go true e false f = let l = ltb-true x (suc k) e in let m = ltb-false y (suc k) f in sym (compare_less x y (omega arith))
    go false e true f = let l = ltb-false x (suc k) e in let m = ltb-true y (suc k) f in sym (compare_more x y (omega arith))
    go false e false f =
        let l = ltb-false x (suc k) e in
        let m = ltb-false y (suc k) f in
        same_compare (x - suc k) (y - suc k) x y (λ h. omega arith) (λ h. omega arith) (λ h. omega arith)

numbers_in_turn : (a b : Date) → compare_z (day_number a) (day_number b) ≡ compare (days_before a) (days_before b)
unfolding day_number
numbers_in_turn a b = from_day (days_before a) (days_before b) (days_before day_zero)

-- ---- seconds of a day

module _ (h i s k j t : ℕ) (hi : i < 60) (hs : s < 60) (hj : j < 60) (ht : t < 60) where
  seconds_in_turn : compare (3600 * h + 60 * i + s) (3600 * k + 60 * j + t) ≡ compare h k then compare i j then compare s t
  seconds_in_turn =
      in_turn (3600 * h + 60 * i + s) (3600 * k + 60 * j + t) h k (60 * i + s) (60 * j + t) (λ l. omega arith) (λ l. omega arith) (λ l. omega arith)
      ∙ ap (λ (o : Ordering). compare h k then o) (in_turn (60 * i + s) (60 * j + t) i j s t (λ l. omega arith) (λ l. omega arith) (λ l. omega arith))

-- ---- moments

module _ (a b : Moment) (v : Valid a) (w : Valid b) where
  pub same_order : time_order (time_of a) (time_of b) ≡ moment_order a b
  unfolding time_order moment_order time_of
  same_order =
      let hour = compare a.hour b.hour in
      let minute = compare a.minute b.minute in
      let second = compare a.second b.second in
      let microsecond = compare a.microsecond b.microsecond in
      rw (
        numbers_in_turn a.date b.date,
        dates_in_turn a.date b.date v.date w.date,
        seconds_in_turn a.hour a.minute a.second b.hour b.minute b.second v.minute v.second w.minute w.second,
      )
      (ap (λ (o : Ordering). date_order a.date b.date then o) (then_assoc hour (minute then second) microsecond ∙ ap (λ (o : Ordering). hour then o) (then_assoc minute second microsecond)))

-- ---- one moment of each time

compare_z_same : (z : ℤ) → compare_z z z ≡ Ordering.eq
compare_z_same (pos n) = compare_same n
compare_z_same (negsuc n) = compare_same n

time_same : (t : Time) → time_order t t ≡ Ordering.eq
unfolding time_order
time_same t = rw (compare_z_same t.days, compare_same t.seconds, compare_same t.microseconds)

date-is : (a b : Date) → date_order a b ≡ Ordering.eq → a ≡ b
unfolding date_order
date-is a b h =
    let year = both_same (compare a.year b.year) (compare a.month b.month then compare a.day b.day) h in
    let month = both_same (compare a.month b.month) (compare a.day b.day) year.1 in
    λ j. record { year = same_number a.year b.year year.0 j; month = same_number a.month b.month month.0 j; day = same_number a.day b.day month.1 j }

moment_is : (a b : Moment) → moment_order a b ≡ Ordering.eq → a ≡ b
unfolding moment_order
moment_is a b h =
    let microsecond = compare a.microsecond b.microsecond in
    let second = compare a.second b.second then microsecond in
    let minute = compare a.minute b.minute then second in
    let hour = compare a.hour b.hour then minute in
    let d = both_same (date_order a.date b.date) hour h in
    let k = both_same (compare a.hour b.hour) minute d.1 in
    let i = both_same (compare a.minute b.minute) second k.1 in
    let s = both_same (compare a.second b.second) microsecond i.1 in
    λ j. record {
      date = date-is a.date b.date d.0 j;
      hour = same_number a.hour b.hour k.0 j;
      minute = same_number a.minute b.minute i.0 j;
      second = same_number a.second b.second s.0 j;
      microsecond = same_number a.microsecond b.microsecond s.1 j;
    }

pub one_moment : (a b : Moment) → Valid a → Valid b → time_of a ≡ time_of b → a ≡ b
one_moment a b v w e = moment_is a b (sym (same_order a b v w) ∙ ap (λ (t : Time). time_order t (time_of b)) e ∙ time_same (time_of b))
