-- A bit pattern is a NaN's where it is above an infinity's with the sign dropped; and 0.0 / 0.0 is the NaN. In either format. Assumes nothing.
use mathlib.Core.Path.{◌≡◌, refl, sym, ◌∙◌}
use mathlib.Core.Bool.{true, not}
use Prim.Native.Nat.{ℕ, ◌*◌, ◌%◌, ◌≤◌, ◌<◌}
use borrow.Author.Tests.{lt-ltb, le-ltb}
use lib.Dec.{T}
use lib.Ieee.{Float, nan, inf, fin, Format, binary32, binary64, ones, hid, top, is_nan, nan_bits, of_bits, div}
use lib.Ieee.Bits.{nan_bits_is, nan_bits_above}

is-nan : (x : Float) → is_nan x ≡ true → x ≡ nan
unfolding is_nan
is-nan nan e = refl
is-nan (inf s) e = cc
is-nan (fin s m k) e = cc

zeros : (f : Format) → div f (of_bits f 0) (of_bits f 0) ≡ nan
unfolding div of_bits
zeros binary32 = refl
zeros binary64 = refl

pub made : (f : Format) (n : ℕ) → ones f * hid f < n % top f → div f (of_bits f 0) (of_bits f 0) ≡ of_bits f n
made f n h = zeros f ∙ sym (is-nan (of_bits f n) (sym (nan_bits_is f n) ∙ nan_bits_above f n ∙ lt-ltb _ _ h))

pub none : (f : Format) (n : ℕ) → n % top f ≤ ones f * hid f → T (not (nan_bits f n))
none f n h = rw (nan_bits_above f n, le-ltb _ _ h) tt
