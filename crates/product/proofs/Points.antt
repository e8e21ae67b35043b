-- How far the answer of `point_at` is from the exact quotients (document 01, "Fields and points"), from its promise alone.
-- Assumes nothing.
use Rattle.std.specs.Prelude.{Result, Ok}
use Prim.Native.Nat.{ℕ, ◌<◌}
use mathlib.Core.List.{List}
use mathlib.Core.Path.{◌≡◌, sym, ap, ◌∙◌}
use lib.IntN.{pos}
use lib.ListN.{get_or}
use Rattle.layout.specs.Bytes.{unsigned_at, signed_at}
use Rattle.layout.specs.Entries.{directory, at}
use Rattle.layout.specs.States.{states_of}
use Rattle.layout.specs.Records.{record_at, record_length, record_part, record_refusal}
use Rattle.layout.specs.Fields.{record_of, point_in, point_reply}
use Rattle.layout.specs.Answers.{reply_is, position_is, point_answer_is}
use Rattle.layout.specs.declared.Point.{Point}
use Rattle.layout.specs.declared.Refusal.{Refusal}
use Rattle.layout.proofs.Replies.{before-is}
use Rattle.values.proofs.Values.{part_bytes}
use Rattle.quotient.proofs.Close.{Close}
use Rattle.fields.proofs.Distance.{point_in_close}

module _ (b : List ℕ) (bytes : (k : ℕ) → get_or b k 0 < 256) (i j : ℕ) where
  pub record-bytes : (k : ℕ) → get_or (record_of b i j) k 0 < 256
  unfolding record_of record_part
  record-bytes =
      let e = at (directory b) i in
      let ss = states_of b (directory b) in
      part_bytes b (record_at ss e j) (record_length ss e j) bytes

  -- each angle of a point is at most 2^-46 degree from the exact quotient, the altitude at most 2^-28 m: with n the result times 2^72 (altitude:
  -- 2^59), a whole number, |1,000,000 n - v 2^72| ≤ 1,000,000 x 2^26, and |100 n - v 2^59| ≤ 100 x 2^31
  pub point_close : (lat lon alt : ℕ) (r : Result Point Refusal) → point_answer_is r ≡ point_reply b i j lat lon alt → (p : Point) → r ≡ Ok p
      → Close p.latitude (signed_at (record_of b i j) lat 4) 1000000 72 26
      × (Close p.longitude (signed_at (record_of b i j) lon 4) 1000000 72 26
      × Close p.altitude (pos (unsigned_at (record_of b i j) alt 4)) 100 59 31)
  unfolding reply_is point_reply
  point_close lat lon alt r promise p h =
      let s = before-is (record_refusal b i j) (point_in (record_of b i j) i lat lon alt) (position_is p) (sym promise ∙ ap point_answer_is h) in
      let c = point_in_close (record_of b i j) record-bytes i lat lon alt (position_is p) s.1 in
      (c.latitude, (c.longitude, c.altitude))
