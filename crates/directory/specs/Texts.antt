-- Texts of one width that stand at one place of each DSD.
-- Assumes nothing.
use Rattle.std.specs.Prelude.{ℕ, ◌+◌, ◌*◌, ◌≤◌, List, map, length}
use Rattle.layout.specs.Bytes.{part}
use Rattle.layout.specs.Search.{join, upto}
use Rattle.layout.specs.Answers.{padded}

-- that of DSD i, of DSDs that begin at `from`
unfoldable pub text_at : List ℕ → ℕ → ℕ → ℕ → ℕ → List ℕ
text_at b from place width i = part b (from + 280 * i + place) width

-- those of n DSDs one after the other, and zeros up to those of 128
unfoldable pub texts_from : List ℕ → ℕ → ℕ → ℕ → ℕ → List ℕ
texts_from b from n place width = padded (128 * width) 0 (join (map (text_at b from place width) (upto 0 n)))

-- n such texts are there, none wider than FILENAME, and from a place on room for 128
pub record Room (b : List ℕ) (from n place width : ℕ) (room : List ℕ) (at : ℕ) : Type 0 where
  pub inside : from + 280 * n ≤ length b
  pub most : n ≤ 128
  pub within : place + width ≤ 280
  pub narrow : width ≤ 62
  pub wide : at + 128 * width ≤ length room
