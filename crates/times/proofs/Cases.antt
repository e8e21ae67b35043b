-- Texts and their times, computed: the order's own examples, and a text for each way to refusal 30.
-- Assumes nothing.
use Prim.Native.Nat.{ℕ}
use mathlib.Core.Bool.{Bool, true, false}
use mathlib.Core.Path.{◌≡◌, refl}
use lib.IntN.{ℤ, pos, negsuc}
use lib.ListN.{replicate}
use Rattle.layout.specs.Bytes.{bytes, part}
use Rattle.layout.specs.Text.{digits}
use Rattle.layout.specs.Answer.{Reply, refusal, is}
use Rattle.layout.specs.Search.{find, sum}
use Rattle.calendar.specs.Calendar.{leap, months, days_of_month, days_of_year, years, valid_date, days_before, day_number}
use Rattle.times.specs.Times.{valid_moment, time_of, in_digits, month_names, month_name, date_text, clock_text, text_of, same_bytes, is_named, month_in, date_in, moment_in, valid_text, blank_text, Said, not_given, given, time_of_text, valid_time}

abbrev at : ℤ → ℕ → ℕ → Reply Said
at d s u = is (given (record { days = d; seconds = s; microseconds = u }))

-- ---- times

day_0 : time_of_text (bytes "01-JAN-2000 00:00:00.000000") ≡ at (pos 0) 0 0
unfolding time_of_text same_bytes blank_text valid_text valid_moment valid_date moment_in date_in month_in is_named find digits part text_of date_text clock_text in_digits month_name month_names time_of day_number days_before years days_of_year days_of_month months leap sum
day_0 = refl

day_before : time_of_text (bytes "31-DEC-1999 00:00:00.000000") ≡ at (negsuc 0) 0 0
unfolding time_of_text same_bytes blank_text valid_text valid_moment valid_date moment_in date_in month_in is_named find digits part text_of date_text clock_text in_digits month_name month_names time_of day_number days_before years days_of_year days_of_month months leap sum
day_before = refl

first-time : time_of_text (bytes "01-JAN-1980 00:00:00.000000") ≡ at (negsuc 7304) 0 0
unfolding time_of_text same_bytes blank_text valid_text valid_moment valid_date moment_in date_in month_in is_named find digits part text_of date_text clock_text in_digits month_name month_names time_of day_number days_before years days_of_year days_of_month months leap sum
first-time = refl

last-time : time_of_text (bytes "31-DEC-2099 23:59:59.999999") ≡ at (pos 36524) 86399 999999
unfolding time_of_text same_bytes blank_text valid_text valid_moment valid_date moment_in date_in month_in is_named find digits part text_of date_text clock_text in_digits month_name month_names time_of day_number days_before years days_of_year days_of_month months leap sum
last-time = refl

leap_day : time_of_text (bytes "29-FEB-2000 01:02:03.000004") ≡ at (pos 59) 3723 4
unfolding time_of_text same_bytes blank_text valid_text valid_moment valid_date moment_in date_in month_in is_named find digits part text_of date_text clock_text in_digits month_name month_names time_of day_number days_before years days_of_year days_of_month months leap sum
leap_day = refl

-- ---- refusal 30

second_60 : time_of_text (bytes "31-DEC-1998 23:59:60.000000") ≡ refusal 30 0 128
unfolding time_of_text same_bytes blank_text valid_text valid_moment valid_date moment_in date_in month_in is_named find digits part text_of date_text clock_text in_digits month_name month_names days_of_month months leap
second_60 = refl

minute_60 : time_of_text (bytes "01-JAN-2000 00:60:00.000000") ≡ refusal 30 0 128
unfolding time_of_text same_bytes blank_text valid_text valid_moment valid_date moment_in date_in month_in is_named find digits part text_of date_text clock_text in_digits month_name month_names days_of_month months leap
minute_60 = refl

hour_24 : time_of_text (bytes "01-JAN-2000 24:00:00.000000") ≡ refusal 30 0 128
unfolding time_of_text same_bytes blank_text valid_text valid_moment valid_date moment_in date_in month_in is_named find digits part text_of date_text clock_text in_digits month_name month_names days_of_month months leap
hour_24 = refl

day_00 : time_of_text (bytes "00-JAN-2000 00:00:00.000000") ≡ refusal 30 0 128
unfolding time_of_text same_bytes blank_text valid_text valid_moment valid_date moment_in date_in month_in is_named find digits part text_of date_text clock_text in_digits month_name month_names days_of_month months leap
day_00 = refl

february_30 : time_of_text (bytes "30-FEB-2000 00:00:00.000000") ≡ refusal 30 0 128
unfolding time_of_text same_bytes blank_text valid_text valid_moment valid_date moment_in date_in month_in is_named find digits part text_of date_text clock_text in_digits month_name month_names days_of_month months leap
february_30 = refl

not-leap : time_of_text (bytes "29-FEB-2001 00:00:00.000000") ≡ refusal 30 0 128
unfolding time_of_text same_bytes blank_text valid_text valid_moment valid_date moment_in date_in month_in is_named find digits part text_of date_text clock_text in_digits month_name month_names days_of_month months leap
not-leap = refl

year_1979 : time_of_text (bytes "31-DEC-1979 23:59:59.999999") ≡ refusal 30 0 128
unfolding time_of_text same_bytes blank_text valid_text valid_moment valid_date moment_in date_in month_in is_named find digits part text_of date_text clock_text in_digits month_name month_names days_of_month months leap
year_1979 = refl

year_2100 : time_of_text (bytes "01-JAN-2100 00:00:00.000000") ≡ refusal 30 0 128
unfolding time_of_text same_bytes blank_text valid_text valid_moment valid_date moment_in date_in month_in is_named find digits part text_of date_text clock_text in_digits month_name month_names days_of_month months leap
year_2100 = refl

lower_case : time_of_text (bytes "01-Jan-2000 00:00:00.000000") ≡ refusal 30 0 128
unfolding time_of_text same_bytes blank_text valid_text valid_moment valid_date moment_in date_in month_in is_named find digits part text_of date_text clock_text in_digits month_name month_names days_of_month months leap
lower_case = refl

one-digit : time_of_text (bytes " 1-JAN-2000 00:00:00.000000") ≡ refusal 30 0 128
unfolding time_of_text same_bytes blank_text valid_text valid_moment valid_date moment_in date_in month_in is_named find digits part text_of date_text clock_text in_digits month_name month_names days_of_month months leap
one-digit = refl

another_byte : time_of_text (bytes "01-JAN-2000T00:00:00.000000") ≡ refusal 30 0 128
unfolding time_of_text same_bytes blank_text valid_text valid_moment valid_date moment_in date_in month_in is_named find digits part text_of date_text clock_text in_digits month_name month_names days_of_month months leap
another_byte = refl

too_short : time_of_text (bytes "01-JAN-2000 00:00:00.00000") ≡ refusal 30 0 128
unfolding time_of_text same_bytes blank_text valid_text valid_moment valid_date moment_in date_in month_in is_named find digits part text_of date_text clock_text in_digits month_name month_names days_of_month months leap
too_short = refl

too_long : time_of_text (bytes "01-JAN-2000 00:00:00.0000000") ≡ refusal 30 0 128
unfolding time_of_text same_bytes blank_text valid_text valid_moment valid_date moment_in date_in month_in is_named find digits part text_of date_text clock_text in_digits month_name month_names days_of_month months leap
too_long = refl

empty : time_of_text (bytes "") ≡ refusal 30 0 128
unfolding time_of_text same_bytes blank_text valid_text valid_moment valid_date moment_in date_in month_in is_named find digits part text_of date_text clock_text in_digits month_name month_names days_of_month months leap
empty = refl

-- ---- blanks

blanks_26 : time_of_text (replicate 26 32) ≡ refusal 30 0 128
unfolding time_of_text same_bytes blank_text valid_text valid_moment valid_date moment_in date_in month_in is_named find digits part text_of date_text clock_text in_digits month_name month_names days_of_month months leap
blanks_26 = refl

blanks_27 : time_of_text (replicate 27 32) ≡ is not_given
unfolding time_of_text same_bytes blank_text valid_text valid_moment valid_date moment_in date_in month_in is_named find digits part text_of date_text clock_text in_digits month_name month_names days_of_month months leap
blanks_27 = refl

blanks_28 : time_of_text (replicate 28 32) ≡ refusal 30 0 128
unfolding time_of_text same_bytes blank_text valid_text valid_moment valid_date moment_in date_in month_in is_named find digits part text_of date_text clock_text in_digits month_name month_names days_of_month months leap
blanks_28 = refl

-- ---- the range of an mjd

abbrev valid : ℤ → ℕ → ℕ → Bool
valid d s u = valid_time (record { days = d; seconds = s; microseconds = u })

in-range : (valid (negsuc 7304) 0 0 ≡ true) × ((valid (pos 36524) 86399 999999 ≡ true) × (valid (negsuc 0) 0 0 ≡ true))
unfolding valid_time day_number days_before years days_of_year months leap sum
in-range = (refl, (refl, refl))

out_of_range : (valid (negsuc 7305) 0 0 ≡ false) × ((valid (pos 36525) 0 0 ≡ false) × ((valid (pos 0) 86400 0 ≡ false) × (valid (pos 0) 0 1000000 ≡ false)))
unfolding valid_time day_number days_before years days_of_year months leap sum
out_of_range = (refl, (refl, (refl, refl)))
