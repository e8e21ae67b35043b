-- What the contract of `streams::read_whole` cites. Assumes nothing.
use Rattle.std.specs.Prelude.{◌≡◌, ◌≤◌, ℕ, List, length, take, Result, Ok, Err}

module _ {E : Type 0} where
  -- a number that arrived counts bytes at the start of the room
  abbrev pub Fills : Result ℕ E → List ℕ → Type 0
  Fills (Ok n) room = (n ≤ length room) × (n ≡ length (take n room))
  Fills (Err e) room = Unit {0}

  -- what arrived of these bytes is all of them, or as many as the room holds
  abbrev pub Holds : Result ℕ E → List ℕ → List ℕ → Type 0
  Holds (Ok n) room bytes = take n room ≡ take (length room) bytes
  Holds (Err e) room bytes = Unit {0}
