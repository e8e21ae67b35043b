-- A year as the code divides it: with a February of 30 days.
-- Assumes nothing.
use Rattle.std.specs.Prelude.{ℕ, ◌+◌, ◌-◌, Bool, cond, ltb}

-- the days that February has less than 30
unfoldable pub missing : Bool → ℕ
missing long = cond long 1 2

-- so many from a number on
unfoldable pub from_on : ℕ → ℕ → ℕ → ℕ
from_on n least many = cond (ltb n least) 0 many

-- the days of a year before one of its days, with those that February has not
unfoldable pub even_days : Bool → ℕ → ℕ
even_days long d = d + from_on d (61 - missing long) (missing long)
