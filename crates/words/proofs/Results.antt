-- What a host can tell by a lent room: two results that a promise allows are equal, and where 0 is returned the answer stands in its room.
-- Assumes nothing.
use Prim.Native.Nat.{ℕ, ◌<◌}
use mathlib.Core.Bool.{Bool, true, false, ◌&&◌}
use mathlib.Core.List.{List}
use mathlib.Core.Path.{◌≡◌, sym, ap, ◌∙◌}
use native.Mathlib.Omega.{arith}
use lib.ListN.{length, drop, get_or, get_or-append}
use Rattle.words.specs.Lent.{long_enough, told, filled, OneRoom, TwoRooms}

-- two results that one room's promise allows are equal
pub one_result : {A : Type 0} {answer old new other : List A} {r s : ℕ} → OneRoom answer old new r → OneRoom answer old other s → (new ≡ other) × (r ≡ s)
one_result x y = (x.written ∙ sym y.written, x.returned ∙ sym y.returned)

-- two results that the promise of two rooms allows are equal
pub two_results : {A B : Type 0} {answer old new other : List A} {answer' old' new' other' : List B} {r s : ℕ}
    → TwoRooms answer old new answer' old' new' r → TwoRooms answer old other answer' old' other' s → (new ≡ other) × ((new' ≡ other') × (r ≡ s))
two_results x y = (x.written ∙ sym y.written, (x.written' ∙ sym y.written', x.returned ∙ sym y.returned))

filled-word : {A : Type 0} (t : Bool) (answer old new : List A) → 0 ≡ told t → new ≡ filled t answer old → (k : ℕ) (d : A) → k < length answer → get_or new k d ≡ get_or answer k d
unfolding told filled
filled-word true answer old new q w k d l = ap (λ (m : List _). get_or m k d) w ∙ get_or-append answer (drop (length answer) old) d k l
filled-word false answer old new q w k d l = absurd (omega arith)

-- where 0 is returned, each word of the answer stands in the room
pub room_word : {A : Type 0} (answer old new : List A) → OneRoom answer old new 0 → (k : ℕ) (d : A) → k < length answer → get_or new k d ≡ get_or answer k d
room_word answer old new x = filled-word (long_enough old answer) answer old new x.returned x.written

-- and, of two rooms, in the first
pub first-room-word : {A B : Type 0} (answer old new : List A) (answer' old' new' : List B) → TwoRooms answer old new answer' old' new' 0 → (k : ℕ) (d : A) → k < length answer → get_or new k d ≡ get_or answer k d
first-room-word answer old new answer' old' new' x = filled-word (long_enough old answer && long_enough old' answer') answer old new x.returned x.written
