-- What the tests of SPH lines answer (document 01, "Header text", last paragraph): where a good line ends, and where the first bad one begins.
-- Assumes nothing.
use Rattle.std.specs.Prelude.{ℕ, ◌+◌, ◌-◌, ◌≤◌, Bool, cond, ◌&&◌, ◌||◌, not, List, ◌≡◌, eqb, drop, Option, Some, None, IfSome}
use Rattle.layout.specs.Bytes.{part, byte_at, within}
use Rattle.layout.specs.Search.{find}
use Rattle.layout.specs.Sph.{line, line_begins}

-- byte 10 stands at a place
unfoldable pub ends_line : List ℕ → ℕ → Bool
ends_line b i = eqb (byte_at b i) 10

-- a byte of a keyword behind its first, A to Z, 0 to 9 or _
unfoldable pub in_keyword : ℕ → Bool
in_keyword x = within 65 90 x || (within 48 57 x || eqb x 95)

-- the place behind the first byte 10 from `at` on, if what stands in at..to passes the test
unfoldable pub end_if : (List ℕ → Bool) → List ℕ → ℕ → ℕ → Option ℕ
end_if test b at to = cond (test (part b at (to - at))) (Some (find (ends_line b) at (to - at) + 1)) None

-- r is that place, and not behind `to`
pub record Ended (test : List ℕ → Bool) (b : List ℕ) (at to : ℕ) (r : Option ℕ) : Type 0 where
  pub is : r ≡ end_if test b at to
  pub inside : IfSome r (λ end. end ≤ to)

-- a line begins at the place i of some lines, and it is bad or does not end
unfoldable pub bad_line_at : List ℕ → ℕ → Bool
bad_line_at l i = line_begins l i && not (line (drop i l))

-- the first byte of the first bad or unended line of those in from..to, or `to`
unfoldable pub first_bad_line : List ℕ → ℕ → ℕ → ℕ
first_bad_line b from to = from + find (bad_line_at (part b from (to - from))) 0 (to - from)
