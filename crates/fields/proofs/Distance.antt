-- How far the point of a record is from the exact quotients (document 01, "Fields and points").
-- Assumes nothing.
use Prim.Native.Nat.{ℕ, zero, suc, ◌+◌, ◌^◌, ◌≤◌, ◌<◌}
use mathlib.Core.List.{List}
use mathlib.Core.Path.{◌≡◌}
use native.Mathlib.Omega.{arith}
use native.Mathlib.Numerals.{add-one}
use lib.Dec.{T, leb→le}
use lib.IntN.{ℤ, pos, negsuc, neg_ℤ, nat_abs}
use lib.Signed.{le_z}
use lib.ListN.{get_or}
use Rattle.layout.specs.Bytes.{byte_at, unsigned_at, signed_at}
use Rattle.layout.specs.Answer.{is}
use Rattle.layout.specs.Fields.{Position, in_limits, ends_in, position_at, point_refusal, point_in}
use Rattle.layout.proofs.Laws.{and_T, need-accepts, or_else_accepts}
use Rattle.layout.proofs.Replies.{else_is}
use Rattle.octets.proofs.Digits.{next-lt}
use Rattle.quotient.proofs.Close.{Close}
use Rattle.quotient.proofs.Theorems.{degrees_close, metres_close}

-- the big-endian number of w bytes is below 256 ^ w
pub unsigned_below : (r : List ℕ) → ((k : ℕ) → get_or r k 0 < 256) → (at w : ℕ) → unsigned_at r at w < 256 ^ w
unfolding unsigned_at byte_at
unsigned_below r bytes at zero = omega arith
unsigned_below r bytes at (suc w) = rw add-one at (next-lt (unsigned_at r at w) (get_or r (at + w) 0) w (unsigned_below r bytes at w) (bytes (at + w)))

-- an angle within limits is at most so large, either way
limited : (m : ℕ) (v : ℤ) → T (in_limits m v) → nat_abs v ≤ m
unfolding in_limits
limited m (pos a) h = leb→le a m ((and_T (le_z (neg_ℤ (pos m)) (pos a)) (le_z (pos a) (pos m))).0 h).1
limited zero (negsuc a) h = absurd h
limited (suc m) (negsuc a) h = omega (arith, leb→le a m ((and_T (le_z (neg_ℤ (pos (suc m))) (negsuc a)) (le_z (negsuc a) (pos (suc m)))).0 h).0)

-- each angle is at most 2^-46 degree from the exact quotient, the altitude at most 2^-28 m: with n the result times 2^72 (altitude: 2^59), a whole
-- number, |1,000,000 n - v 2^72| ≤ 1,000,000 x 2^26, and |100 n - v 2^59| ≤ 100 x 2^31
pub record PointClose (r : List ℕ) (lat lon alt : ℕ) (x : Position) : Type 0 where
  pub latitude : Close x.latitude (signed_at r lat 4) 1000000 72 26
  pub longitude : Close x.longitude (signed_at r lon 4) 1000000 72 26
  pub altitude : Close x.altitude (pos (unsigned_at r alt 4)) 100 59 31

module _ (r : List ℕ) (bytes : (k : ℕ) → get_or r k 0 < 256) (i lat lon alt : ℕ) where
  -- refusal 21 bounds the angles, four bytes bound the altitude
  at_position : T (in_limits 90000000 (signed_at r lat 4)) → T (in_limits 180000000 (signed_at r lon 4)) → PointClose r lat lon alt (position_at r lat lon alt)
  unfolding position_at
  at_position north east =
      record {
        latitude = degrees_close (signed_at r lat 4) (omega (arith, limited 90000000 (signed_at r lat 4) north));
        longitude = degrees_close (signed_at r lon 4) (limited 180000000 (signed_at r lon 4) east);
        altitude = metres_close (unsigned_at r alt 4) (unsigned_below r bytes alt 4);
      }

  -- the point that a record answers is that close
  pub point_in_close : (x : Position) → point_in r i lat lon alt ≡ is x → PointClose r lat lon alt x
  unfolding point_in point_refusal ends_in
  point_in_close x h =
      let s = else_is (point_refusal r i lat lon alt) (position_at r lat lon alt) x h in
      let l = simp (or_else_accepts, need-accepts) at s.0 in
      rw s.1 at (at_position l.1.1.1.0 l.1.1.1.1)
