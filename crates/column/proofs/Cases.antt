-- The definition on cases, by computation: values in 32 bits, the order of refusals, single requests one by one.
-- Assumes nothing.
use Prim.Native.Nat.{ℕ}
use mathlib.Core.List.{[], ◌∷◌}
use mathlib.Core.Path.{◌≡◌, refl}
use Rattle.layout.specs.Answer.{accepted, refused, Reply, refusal, is}
use Rattle.layout.specs.Bytes.{unsigned_at, signed_at, twos_complement, byte_at}
use Rattle.layout.specs.Fields.{field_refusal, field_in, ends_in, shape_of, bytes_of, value_at}
use Rattle.field_bits.specs.Bits.{complement, bits_of}
use Rattle.column.specs.Column.{converted, ◌followed_by◌, together, request_refusal, column_in}

-- what a record of eight bytes of entry 3 answers, converted
-- (Reply of a single request)
asked_of : ℕ → ℕ → Reply ℕ
asked_of kind off = converted (field_in (128 ∷ 255 ∷ 127 ∷ 128 ∷ 0 ∷ 1 ∷ 255 ∷ 254 ∷ []) 3 off kind)

-- sc and ss have their sign in 32 bits, uc and us have none; sl, ul and fl are their bits; the bits of a NaN that signals (7f800001) stay
values : asked_of 1 0 ∷ asked_of 1 2 ∷ asked_of 2 0 ∷ asked_of 3 0 ∷ asked_of 3 4 ∷ asked_of 4 0 ∷ asked_of 5 4 ∷ asked_of 5 0 ∷ asked_of 6 0 ∷ asked_of 7 2 ∷ asked_of 1 8 ∷ asked_of 7 5 ∷ []
    ≡ is 4294967168 ∷ is 127 ∷ is 128 ∷ is 4294934783 ∷ is 1 ∷ is 33023 ∷ is 131070 ∷ is 2164227968 ∷ is 2164227968 ∷ is 2139095041 ∷ refusal 20 8 3 ∷ refusal 20 5 3 ∷ []
unfolding asked_of converted bits_of complement field_in field_refusal ends_in shape_of bytes_of value_at signed_at unsigned_at twos_complement byte_at
values = refl

-- entries, entry, a, b, kind, places of the buffer: 17 before 19 before 32 before 33; 512 are taken and 513 are not
requests : request_refusal 2 2 9 0 0 0 ∷ request_refusal 2 1 9 0 0 0 ∷ request_refusal 2 1 9 0 10 0 ∷ request_refusal 2 1 0 0 8 0 ∷ request_refusal 2 1 0 0 9 0 ∷ request_refusal 2 1 9 8 7 0 ∷ request_refusal 2 1 3 516 7 0
    ∷ request_refusal 2 1 3 515 7 511 ∷ request_refusal 2 1 3 515 7 512 ∷ request_refusal 2 1 18446744073709551615 18446744073709551615 1 0 ∷ []
    ≡ refused 17 0 128 ∷ refused 19 0 1 ∷ refused 19 0 1 ∷ refused 32 0 128 ∷ refused 32 0 128 ∷ refused 32 0 128 ∷ refused 32 0 128 ∷ refused 33 0 128 ∷ accepted ∷ accepted ∷ []
unfolding request_refusal
requests = refl

-- the first refusal of several, and what each reply leaves in a buffer of four places
one_by_one : together (is 5 ∷ is 6 ∷ []) ∷ together (is 5 ∷ refusal 20 8 3 ∷ refusal 18 0 3 ∷ []) ∷ together [] ∷ [] ≡ is (5 ∷ 6 ∷ []) ∷ refusal 20 8 3 ∷ is [] ∷ []
unfolding together ◌followed_by◌
one_by_one = refl

rooms : column_in (is (5 ∷ 6 ∷ [])) (1 ∷ 2 ∷ 3 ∷ 4 ∷ []) ∷ column_in (refusal 20 8 3) (1 ∷ 2 ∷ 3 ∷ 4 ∷ []) ∷ [] ≡ (5 ∷ 6 ∷ 3 ∷ 4 ∷ []) ∷ (1 ∷ 2 ∷ 3 ∷ 4 ∷ []) ∷ []
unfolding column_in
rooms = refl
