-- Values stored one behind the other, and where the records lie that they are of.
-- Assumes nothing.
use Prim.Native.Nat.{ℕ, ◌+◌, ◌*◌, ◌≤◌, ◌<◌}
use mathlib.Core.List.{List, [], ◌∷◌, ◌++◌, map}
use mathlib.Core.Path.{◌≡◌, refl, sym, ap}
use native.Mathlib.Omega.{arith}
use native.Mathlib.Nat.{add_assoc, add-mul, suc-mul, mul-le-mul_right}
use lib.ListN.{length, set}
use lib.Seq.{sets}
use Rattle.layout.specs.Search.{upto}
use Rattle.layout.proofs.Laws.{map-one_more}
use Rattle.layout.proofs.Sound.{length-map-upto}
use Rattle.writing.proofs.Puts.{then, one_more, lent_part}
use Rattle.field_bits.specs.Bits.{field_bits}

pub stored-behind : (old mid new xs ys : List ℕ) (at m : ℕ) → m ≡ at + length xs → mid ≡ sets old at xs → new ≡ sets mid m ys → new ≡ sets old at (xs ++ ys)
stored-behind old mid new xs ys at m e p q =
    (then {v = length xs} {w = length ys} {a = xs} {b = ys} {old = old} {mid = mid} {new = new} {at = at} {m = m} {r = m + length ys}
    (record { next = e; written = p; narrow = omega arith })
    (record { next = refl; written = q; narrow = omega arith })
    ).written

-- one more of those that a function gives
pub next-stored : (f : ℕ → ℕ) (old now : List ℕ) (at k x : ℕ) → now ≡ sets old at (map f (upto 0 k)) → x ≡ f k → set now (at + k) x ≡ sets old at (map f (upto 0 (k + 1)))
next-stored f old now at k x h e =
    rw (map-one_more f k, ← e)
    (stored-behind old now (set now (at + k) x) (map f (upto 0 k)) (x ∷ []) at (at + k) (ap (λ (n : ℕ). at + n) (sym (length-map-upto f 0 k))) h refl)

-- what `store_fields` needs of that
pub ruleset next = (next-stored, lent_part)

-- ---- records of one size

-- record k of so many that begin at a place is in a product of n bytes
pub turn_inside : (k count place size n : ℕ) → place + count * size ≤ n → k < count → place + k * size + size ≤ n
turn_inside k count place size n h l = omega (arith, mul-le-mul_right size l, suc-mul k size)

-- the field of a record that is so many records on
pub field_on : (b : List ℕ) (place size off kind m k : ℕ) → field_bits b place size off kind (m + k) ≡ field_bits b (place + m * size) size off kind k
unfolding field_bits
field_on b place size off kind m k = rw (add-mul m k size, add_assoc place (m * size) (k * size))
