-- Residual extinction (document 02, order 1; source 001, tables 10.5-12 and 10.5-13): the one set that holds it, what a pixel of one of its records
-- answers, and refusals 22, 23 and 24.
-- Assumes nothing.
use Rattle.std.specs.Prelude.{ℕ, ◌+◌, ◌*◌, Bool, ◌&&◌, not, List, ltb, eqb, pos, negsuc, Float, length, Result}
use Rattle.std.specs.Float.{binary32}
use Rattle.std.specs.Float.Ieee.{of_bits}
use Rattle.layout.specs.Bytes.{bytes, unsigned_at, signed_at}
use Rattle.layout.specs.Text.{whole}
use Rattle.layout.specs.Answer.{Answer, none, need, Reply, ◌or_else◌, ◌else◌, ◌before◌}
use Rattle.layout.specs.Search.{count, find}
use Rattle.layout.specs.Entries.{Entry, eq_z, directory, at, called}
use Rattle.layout.specs.Rules.{verdict}
use Rattle.layout.specs.Records.{record_refusal}
use Rattle.layout.specs.Fields.{quotient, record_of}
use Rattle.layout.specs.Answers.{time_at, reply}
use Rattle.extinction.specs.declared.Single.{Single}
use Rattle.extinction.specs.declared.Pixel.{Pixel}
use Rattle.layout.specs.declared.Refusal.{Refusal}

-- ---- the set

-- of type M, named EXT_MDS
unfoldable pub is_extinction : Entry → Bool
is_extinction e = eqb e.type 77 && called e.name (bytes "EXT_MDS")

unfoldable pub is_extinction_at : List Entry → ℕ → Bool
is_extinction_at ds i = is_extinction (at ds i)

-- the number of the first such entry
unfoldable pub extinction_entry : List Entry → ℕ
extinction_entry ds = find (is_extinction_at ds) 0 (length ds)

-- 22: not exactly one of that type and name, or wrong record size
unfoldable pub set_refusal : List Entry → Answer
set_refusal ds =
    need (eqb (count (is_extinction_at ds) 0 (length ds)) 1) 22 0 none
    or_else need (eq_z (whole (at ds (extinction_entry ds)).record_size) (pos 25709)) 22 0 none

-- ---- a pixel of a record

-- fl: the value and its bits
unfoldable pub single_at : List ℕ → ℕ → Single
single_at r off = record { value = of_bits binary32 (unsigned_at r off 4); bits = unsigned_at r off 4 }

-- a model code c means 2c/65535: 2c as f64, divided once
unfoldable pub model_of : ℕ → Float
model_of c = quotient (pos (2 * c)) 65535

-- time at 0, quality sc at 12, transmissions fl at 13, covariances fl at 9357, model us at 18701, flags uc at 23373
unfoldable pub pixel_of : List ℕ → ℕ → Pixel
pixel_of r pixel =
    record {
      time = time_at r 0;
      quality = signed_at r 12 1;
      transmission = single_at r (13 + 4 * pixel);
      covariance = single_at r (9357 + 4 * pixel);
      model_code = unsigned_at r (18701 + 2 * pixel) 2;
      model = model_of (unsigned_at r (18701 + 2 * pixel) 2);
      flag = unsigned_at r (23373 + pixel) 1;
    }

-- 23: pixel 2,336 or more; 24: quality is -1. `r` is the record and `i` its entry
unfoldable pub pixel_refusal : List ℕ → ℕ → ℕ → Answer
pixel_refusal r i pixel = need (ltb pixel 2336) 23 pixel i or_else need (not (eq_z (signed_at r 12 1) (negsuc 0))) 24 12 i

unfoldable pub pixel_in : List ℕ → ℕ → ℕ → Reply Pixel
pixel_in r i pixel = pixel_refusal r i pixel else pixel_of r pixel

-- ---- the call

-- a product's own refusals, 22 and then 18
unfoldable pub measurement_refusal : List ℕ → ℕ → Answer
measurement_refusal b j = verdict b or_else set_refusal (directory b) or_else record_refusal b (extinction_entry (directory b)) j

-- a pixel of record j of the set
unfoldable pub pixel_reply : List ℕ → ℕ → ℕ → Reply Pixel
pixel_reply b j pixel =
    let i = extinction_entry (directory b) in
    measurement_refusal b j before pixel_in (record_of b i j) i pixel

-- what the result says
abbrev pub pixel_answer_is : Result Pixel Refusal → Reply Pixel
pixel_answer_is r = reply r
