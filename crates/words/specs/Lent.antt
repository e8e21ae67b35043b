-- What a function of the host boundary writes into the rooms that it is lent, and what it returns.
-- Assumes nothing.
use Rattle.std.specs.Prelude.{ℕ, Bool, true, false, ◌&&◌, ◌≡◌, List, ◌++◌, leb, length, drop}

-- a room is long enough for an answer
unfoldable pub long_enough : {A : Type 0} → List A → List A → Bool
long_enough room answer = leb (length answer) (length room)

-- 0 written, 1 a room too short
unfoldable pub told : Bool → ℕ
told true = 0
told false = 1

-- the answer from the first place on, and what lies behind it as it was; where a room is too short, all as it was
unfoldable pub filled : {A : Type 0} → Bool → List A → List A → List A
filled true answer room = answer ++ drop (length answer) room
filled false answer room = room

-- one room
pub record OneRoom {A : Type 0} (answer old new : List A) (r : ℕ) : Type 0 where
  pub returned : r ≡ told (long_enough old answer)
  pub written : new ≡ filled (long_enough old answer) answer old

-- two rooms: nothing is written where either is too short
pub record TwoRooms {A B : Type 0} (answer old new : List A) (answer' old' new' : List B) (r : ℕ) : Type 0 where
  pub returned : r ≡ told (long_enough old answer && long_enough old' answer')
  pub written : new ≡ filled (long_enough old answer && long_enough old' answer') answer old
  pub written' : new' ≡ filled (long_enough old answer && long_enough old' answer') answer' old'
