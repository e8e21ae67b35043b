-- The laws of texts put into a buffer: two puts one after the other put the joined text, and what a part of the buffer then is.
-- Assumes nothing.
use Prim.Native.Nat.{ℕ, suc, ◌+◌, ◌-◌, ◌≤◌, ◌<◌}
use mathlib.Core.Path.{◌≡◌, refl, sym, ap, ◌∙◌, subst}
use mathlib.Core.List.{List, [], ◌∷◌, ◌++◌, append-nil}
use native.Mathlib.Omega.{arith}
use native.Mathlib.Nat.{add-zero, zero-add, add-suc, suc-add}
use lib.ListN.{length, take, drop, get_or, set, length-append, length-drop}
use lib.Seq.{sets, sets-eq, take_all, length-sets, take-suc, take_at, drop_at, take-append-le, drop-append-le, drop-append-add, take-set-le, drop-set-lt, drop-set-add, drop-length, length-take-le}
use borrow.Rule.Slice.PartMut.{put_mid}
use Rattle.std.proofs.lemmas.Slice.{put_mid-paste}
use Rattle.layout.specs.Bytes.{part}
use Rattle.writing.specs.Put.{Put, Written}

module _ {A : Type 0} where
  sets_append : (l : List A) (at : ℕ) (a b : List A) → sets l at (a ++ b) ≡ sets (sets l at a) (at + length a) b
  sets_append l at [] b = rw add-zero
  sets_append l at (x ∷ a) b = sets_append (set l at x) (suc at) a b ∙ rw (suc-add at (length a), add-suc at (length a))

  pub then : {v w : ℕ} {a b old mid new : List A} {at m r : ℕ} → Put v a old mid at m → Put w b mid new m r → Put (v + w) (a ++ b) old new at r
  then {v} {w} {a} {b} {old} {mid} {new} {at} {m} {r} p q = record {
    next = rw (length-append a b) (omega arith);
    written = q.written ∙ rw (p.written, p.next, sets_append old at a b);
    narrow = rw (length-append a b) (omega arith);
  }

  -- under another bound
  pub at_most : (v : ℕ) {w : ℕ} {text old new : List A} {at r : ℕ} → Put w text old new at r → length text ≤ v → Put v text old new at r
  at_most v p h = record { next = p.next; written = p.written; narrow = h }

  pub same_room : {w : ℕ} {text old new : List A} {at r : ℕ} → Put w text old new at r → length new ≡ length old
  same_room {w} {text} {old} {new} {at} p = ap length p.written ∙ length-sets old at text

  -- the text written otherwise
  pub spelled : {w : ℕ} {a b old new : List A} {at r : ℕ} → a ≡ b → Put w a old new at r → Put w b old new at r
  spelled {w} {a} {b} {old} {new} {at} {r} e p = subst (λ (text : List A). Put w text old new at r) e p

  -- a text copied over the part that is as long
  pub pasted : (old text : List A) (at : ℕ) {n : ℕ} {xs : List A} → xs ≡ text → length text ≡ n → at + n ≤ length old → Put n text old (put_mid at (at + n - at) old xs) at (at + n)
  pasted old text at {n} e l h =
      let whole : take n text ≡ text = take_all n text (omega arith) in
      record {
        next = rw l;
        written = put_mid-paste at (at + n - at) old _ text n e (omega arith) (sym l) ∙ rw (whole, sets-eq text old at (omega arith), l);
        narrow = omega arith;
      }

  -- a turn of the loop that copies a text
  pub one_more : (old text : List A) (at i : ℕ) (z : A) → i < length text → set (sets old at (take i text)) (at + i) (get_or text i z) ≡ sets old at (take (suc i) text)
  one_more old text at i z h = rw (take-suc text i z h, sets_append old at (take i text) (get_or text i z ∷ []), length-take-le i text (omega arith))

  -- from the first place on
  pub at_first : {w : ℕ} {text old new : List A} {r : ℕ} → Put w text old new 0 r → length text ≤ length old → new ≡ text ++ drop (length text) old
  at_first {w} {text} {old} p h = p.written ∙ sets-eq text old 0 (omega arith) ∙ rw zero-add

  -- the same in a buffer with room for more
  pub from_start : {w : ℕ} {text old new : List A} {r : ℕ} (room : ℕ) → Put w text old new 0 r → w ≤ room → room ≤ length old → Written room text old new r
  from_start {w} {text} {old} {new} {r} room p h l =
      let count : r ≡ length text = omega arith in
      let all : new ≡ text ++ drop r old = at_first p (omega arith) ∙ rw count in
      record {
        count = count;
        first = rw all (take_at text (drop r old) r (sym count));
        behind = rw all (drop_at text (drop r old) r (sym count));
        narrow = omega arith;
      }

  -- a text as long as the room
  pub fills : {w : ℕ} {text old new : List A} {r : ℕ} → Put w text old new 0 r → length text ≡ length old → new ≡ text
  fills {w} {text} {old} p h = at_first p (omega arith) ∙ rw (h, drop-length old, append-nil text)

  pub nothing : (old : List A) (at : ℕ) → Put 0 [] old old at at
  nothing old at = record { next = omega arith; written = refl; narrow = omega arith }

-- a part lent up to the place so many bytes on
pub lent_part : (l : List ℕ) (at n : ℕ) → take (at + n - at) (drop at l) ≡ part l at n
unfolding part
lent_part l at n = let e : at + n - at ≡ n = omega arith in rw e

pub lent_length : (l : List ℕ) (at n : ℕ) → at + n ≤ length l → length (take (at + n - at) (drop at l)) ≡ n
lent_length l at n h = let e : at + n - at ≡ n = omega arith in rw e (length-take-le n (drop at l) (omega (arith, length-drop at l)))

-- ---- what so many elements from a place on then are

module _ {A : Type 0} where
  pub sets_before : (old text : List A) (at a n : ℕ) → a + n ≤ at → take n (drop a (sets old at text)) ≡ take n (drop a old)
  sets_before old [] at a n h = refl
  sets_before old (x ∷ text) at a n h =
      let e : at ≡ a + (at - a) = omega arith in
      sets_before (set old at x) text (suc at) a n (omega arith)
      ∙ ap (λ (i : ℕ). take n (drop a (set old i x))) e
      ∙ rw (drop-set-add a old (at - a) x, take-set-le n (drop a old) (at - a) x (omega arith))

  pub sets_behind : (old text : List A) (at a n : ℕ) → at + length text ≤ a → take n (drop a (sets old at text)) ≡ take n (drop a old)
  sets_behind old [] at a n h = refl
  sets_behind old (x ∷ text) at a n h = sets_behind (set old at x) text (suc at) a n (omega arith) ∙ ap (take n) (drop-set-lt a old at x (omega arith))

  pub sets_inside : (old text : List A) (at o n : ℕ) → at + length text ≤ length old → o + n ≤ length text → take n (drop (at + o) (sets old at text)) ≡ take n (drop o text)
  sets_inside old text at o n h l =
      let first : length (take at old) ≡ at = length-take-le at old (omega arith) in
      let rest = drop (at + length text) old in
      let e : drop (at + o) (take at old ++ text) ≡ drop o text = ap (λ (k : ℕ). drop (k + o) (take at old ++ text)) (sym first) ∙ drop-append-add (take at old) text o in
      rw (sets-eq text old at h, drop-append-le (at + o) (take at old ++ text) rest (omega (arith, first, length-append (take at old) text)), e)
      (take-append-le n (drop o text) rest (omega (arith, length-drop o text)))

module _ {new : List ℕ} (old text : List ℕ) (at : ℕ) (is : new ≡ sets old at text) where
  pub part-before : (a n : ℕ) → a + n ≤ at → part new a n ≡ part old a n
  unfolding part
  part-before a n h = rw is (sets_before old text at a n h)

  pub part-behind : (a n : ℕ) → at + length text ≤ a → part new a n ≡ part old a n
  unfolding part
  part-behind a n h = rw is (sets_behind old text at a n h)

  pub part-inside : (o n : ℕ) → at + length text ≤ length old → o + n ≤ length text → part new (at + o) n ≡ part text o n
  unfolding part
  part-inside o n h l = rw is (sets_inside old text at o n h l)
