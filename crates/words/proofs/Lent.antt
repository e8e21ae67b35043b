-- The laws of lent rooms: an answer put from the first place on fills its room, and a room too short stays as it was.
-- Assumes nothing.
use Prim.Native.Nat.{ℕ, ◌≤◌, ◌<◌}
use mathlib.Core.Bool.{true, false}
use mathlib.Core.Path.{◌≡◌}
use mathlib.Core.List.{List}
use lib.ListN.{length}
use borrow.Author.Tests.{le-leb, lt-leb}
use Rattle.writing.specs.Put.{Put}
use Rattle.writing.proofs.Puts.{at_first}
use Rattle.words.specs.Lent.{long_enough, told, filled, OneRoom, TwoRooms}

module _ {A : Type 0} (answer old : List A) where
  enough : length answer ≤ length old → long_enough old answer ≡ true
  unfolding long_enough
  enough h = le-leb (length answer) (length old) h

  short : length old < length answer → long_enough old answer ≡ false
  unfolding long_enough
  short h = lt-leb (length answer) (length old) h

module _ {A : Type 0} {answer old : List A} where
  pub one_short : length old < length answer → OneRoom answer old old 1
  unfolding told filled
  one_short h = record { returned = rw (short answer old h); written = rw (short answer old h) }

  pub one_written : {w r : ℕ} {new : List A} → Put w answer old new 0 r → length answer ≤ length old → OneRoom answer old new 0
  unfolding told filled
  one_written p h = record { returned = rw (enough answer old h); written = rw (enough answer old h) (at_first p h) }

module _ {A B : Type 0} {answer old : List A} {answer' old' : List B} where
  pub first_short : length old < length answer → TwoRooms answer old old answer' old' old' 1
  unfolding told filled
  first_short h = let e = short answer old h in record { returned = rw e; written = rw e; written' = rw e }

  pub second_short : length answer ≤ length old → length old' < length answer' → TwoRooms answer old old answer' old' old' 1
  unfolding told filled
  second_short g h = let d = enough answer old g in let e = short answer' old' h in record { returned = rw (d, e); written = rw (d, e); written' = rw (d, e) }

  pub both_written : {v w r r' : ℕ} {new : List A} {new' : List B} → Put v answer old new 0 r → Put w answer' old' new' 0 r' → length answer ≤ length old → length answer' ≤ length old' → TwoRooms answer old new answer' old' new' 0
  unfolding told filled
  both_written p q g h =
      let d = enough answer old g in
      let e = enough answer' old' h in
      record { returned = rw (d, e); written = rw (d, e) (at_first p g); written' = rw (d, e) (at_first q h) }
