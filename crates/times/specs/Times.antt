-- Times people can read (document 02, order 7): a moment, its text `DD-MMM-YYYY hh:mm:ss.uuuuuu` and its time, days, seconds and microseconds from
-- 1 January 2000 on; what a text says, and the text of a time.
-- Assumes nothing.
use Rattle.std.specs.Prelude.{ℕ, zero, suc, ◌+◌, ◌*◌, ◌-◌, ◌/◌, ◌%◌, Bool, true, false, cond, ◌&&◌, List, [], ◌∷◌, ◌++◌, ◌≡◌, T, ltb, eqb, get_or, replicate, Option, Some, None, Result, Ok, Err}
use Rattle.layout.specs.Bytes.{bytes, part}
use Rattle.layout.specs.Text.{digits}
use Rattle.layout.specs.Answer.{none, need, Reply, is, ◌else◌}
use Rattle.layout.specs.Search.{find}
use Rattle.layout.specs.Entries.{within_z}
use Rattle.layout.specs.Answers.{reply_is, verdict_is}
use Rattle.layout.specs.declared.Refusal.{Refusal}
use Rattle.layout.specs.declared.Time.{Time}
use Rattle.calendar.specs.declared.Date.{Date}
use Rattle.calendar.specs.Calendar.{valid_date, day_number}
use Rattle.times.specs.declared.Moment.{Moment}

-- ---- moments

-- a date from 1980 to 2099, hours to 23, minutes and seconds to 59: no second is 60
unfoldable pub valid_moment : Moment → Bool
valid_moment m = valid_date m.date && (ltb m.hour 24 && (ltb m.minute 60 && (ltb m.second 60 && ltb m.microsecond 1000000)))

-- the mjd of a moment
unfoldable pub time_of : Moment → Time
time_of m = record { days = day_number m.date; seconds = 3600 * m.hour + 60 * m.minute + m.second; microseconds = m.microsecond }

-- ---- the 27 bytes of its text

-- n in w digits
unfoldable pub in_digits : ℕ → ℕ → List ℕ
in_digits zero n = []
in_digits (suc w) n = in_digits w (n / 10) ++ (48 + n % 10) ∷ []

-- months as three capitals
unfoldable pub month_names : List (List ℕ)
month_names =
    bytes "JAN" ∷ bytes "FEB" ∷ bytes "MAR" ∷ bytes "APR" ∷ bytes "MAY" ∷ bytes "JUN"
    ∷ bytes "JUL" ∷ bytes "AUG" ∷ bytes "SEP" ∷ bytes "OCT" ∷ bytes "NOV" ∷ bytes "DEC" ∷ []

unfoldable pub month_name : ℕ → List ℕ
month_name m = get_or month_names (m - 1) []

-- DD-MMM-YYYY
unfoldable pub date_text : Date → List ℕ
date_text d = in_digits 2 d.day ++ bytes "-" ++ month_name d.month ++ bytes "-" ++ in_digits 4 d.year

-- hh:mm:ss.uuuuuu
unfoldable pub clock_text : Moment → List ℕ
clock_text m = in_digits 2 m.hour ++ bytes ":" ++ in_digits 2 m.minute ++ bytes ":" ++ in_digits 2 m.second ++ bytes "." ++ in_digits 6 m.microsecond

unfoldable pub text_of : Moment → List ℕ
text_of m = date_text m.date ++ bytes " " ++ clock_text m

-- ---- what a text says

unfoldable pub same_bytes : List ℕ → List ℕ → Bool
same_bytes [] [] = true
same_bytes [] (y ∷ ys) = false
same_bytes (x ∷ xs) [] = false
same_bytes (x ∷ xs) (y ∷ ys) = eqb x y && same_bytes xs ys

unfoldable pub is_named : List ℕ → ℕ → Bool
is_named name m = same_bytes name (month_name m)

-- the month of this name, or 13
unfoldable pub month_in : List ℕ → ℕ
month_in name = find (is_named name) 1 12

-- the only moment that a text can be the text of: what stands where its parts have to stand
unfoldable pub date_in : List ℕ → Date
date_in t = record { year = digits 0 (part t 7 4); month = month_in (part t 3 3); day = digits 0 (part t 0 2) }

unfoldable pub moment_in : List ℕ → Moment
moment_in t =
    record {
      date = date_in t;
      hour = digits 0 (part t 12 2);
      minute = digits 0 (part t 15 2);
      second = digits 0 (part t 18 2);
      microsecond = digits 0 (part t 21 6);
    }

-- a text is valid where it is the text of a valid moment
unfoldable pub valid_text : List ℕ → Bool
valid_text t = valid_moment (moment_in t) && same_bytes t (text_of (moment_in t))

-- 27 blanks are an answer of their own
unfoldable pub blank_text : List ℕ
blank_text = replicate 27 32

pub data Said : Type 0 where
  not_given : Said
  given : Time → Said

-- 30: any other text
unfoldable pub time_of_text : List ℕ → Reply Said
time_of_text t = cond (same_bytes t blank_text) (is not_given) (need (valid_text t) 30 0 none else given (time_of (moment_in t)))

-- what the result says
unfoldable pub said_by : Option Time → Said
said_by None = not_given
said_by (Some t) = given t

abbrev pub time_answer_is : Result (Option Time) Refusal → Reply Said
time_answer_is r = reply_is said_by r

-- ---- the text of a time

abbrev pub first_day : Date
first_day = record { year = 1980; month = 1; day = 1 }

abbrev pub last_day : Date
last_day = record { year = 2099; month = 12; day = 31 }

-- the range of an mjd
unfoldable pub valid_time : Time → Bool
valid_time t = within_z (day_number first_day) (day_number last_day) t.days && (ltb t.seconds 86400 && ltb t.microseconds 1000000)

-- the text that says this time; 27 zeros where the time is outside the range
pub record TextIs (t : Time) (text : List ℕ) : Type 0 where
  pub says : T (valid_time t) → time_of_text text ≡ is (given t)
  pub none : valid_time t ≡ false → text ≡ replicate 27 0

-- the verdict of a text or a refusal, and its bytes: 27 zeros beside a refusal
unfoldable pub text_bytes : Result (List ℕ) Refusal → List ℕ
text_bytes (Ok text) = text
text_bytes (Err r) = replicate 27 0

-- 31: an mjd outside the range
pub record TextAnswer (t : Time) (r : Result (List ℕ) Refusal) : Type 0 where
  pub verdict : verdict_is r ≡ need (valid_time t) 31 0 none
  pub text : TextIs t (text_bytes r)
