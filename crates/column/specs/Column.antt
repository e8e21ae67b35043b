-- A column (document 02, order 8): the same field of records a to b - 1 of one entry, converted to 32 bits, as single requests give it; refusals 32 and 33.
-- Assumes nothing.
use Rattle.std.specs.Prelude.{ℕ, ◌-◌, ◌&&◌, List, [], ◌∷◌, ◌++◌, map, ◌≡◌, leb, ltb, length, drop, Result}
use Rattle.layout.specs.Bytes.{within}
use Rattle.layout.specs.Answer.{Answer, accepted, refused, none, need, Reply, refusal, is, ◌or_else◌, ◌before◌}
use Rattle.layout.specs.Search.{upto}
use Rattle.layout.specs.Entries.{directory}
use Rattle.layout.specs.Rules.{verdict}
use Rattle.layout.specs.Fields.{Value, field_reply}
use Rattle.layout.specs.Answers.{verdict_is}
use Rattle.layout.specs.declared.Refusal.{Refusal}
use Rattle.field_bits.specs.Bits.{bits_of}

-- ---- a single request

-- signed kinds and floats give the two's complement or IEEE bits in 32 bits
unfoldable pub converted : Reply Value → Reply ℕ
converted (refusal n p e) = refusal n p e
converted (is v) = is (bits_of v)

-- what asking for the field of record j of entry i gives, converted so
unfoldable pub asked : (b : List ℕ) (i off kind j : ℕ) → Reply ℕ
asked b i off kind j = converted (field_reply b i j off kind)

-- ---- one by one

-- a value, and what comes behind it
unfoldable pub ◌followed_by◌ : ℕ → Reply (List ℕ) → Reply (List ℕ)
x followed_by (refusal n p e) = refusal n p e
x followed_by (is xs) = is (x ∷ xs)

infixr 45 ◌followed_by◌
-- all values, or the first refusal
unfoldable pub together : List (Reply ℕ) → Reply (List ℕ)
together [] = is []
together (refusal n p e ∷ rs) = refusal n p e
together (is x ∷ rs) = x followed_by together rs

-- ---- the column

-- of entry i: `from` is a, `to` is b, and `room` the places of the buffer

-- 17: the entry is not there; 19: field kind unknown; 32: kind 8 or 9, a above b or more than 512; 33: buffer too short
unfoldable pub request_refusal : (entries i from to kind room : ℕ) → Answer
request_refusal entries i from to kind room =
    need (ltb i entries) 17 0 none
    or_else need (within 1 9 kind) 19 0 i
    or_else need (leb kind 7 && (leb from to && leb (to - from) 512)) 32 0 none
    or_else need (leb (to - from) room) 33 0 none

-- a product's own, those, and then the first refused single request's: 18 or 20; else exactly what asking one by one gives
unfoldable pub column_reply : (b : List ℕ) (i from to off kind room : ℕ) → Reply (List ℕ)
column_reply b i from to off kind room =
    (verdict b or_else request_refusal (length (directory b)) i from to kind room)
    before together (map (asked b i off kind) (upto from (to - from)))

unfoldable pub refusal_of : Reply (List ℕ) → Answer
refusal_of (refusal n p e) = refused n p e
refusal_of (is xs) = accepted

-- a refusal writes nothing; places behind the last stay
unfoldable pub column_in : Reply (List ℕ) → List ℕ → List ℕ
column_in (refusal n p e) room = room
column_in (is xs) room = xs ++ drop (length xs) room

-- what is said, and what is in the buffer then
pub record ColumnIs (reply : Reply (List ℕ)) (old new : List ℕ) (v : Result (Unit {0}) Refusal) : Type 0 where
  pub told : verdict_is v ≡ refusal_of reply
  pub written : new ≡ column_in reply old
