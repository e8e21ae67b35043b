-- Sets that stand one behind the other, entry by entry: those so far lie as rules 12 to 14 say, between the headers' end and where the last of them ends.
-- Assumes nothing.
use Prim.Native.Nat.{ℕ, ◌+◌, ◌≤◌, ◌<◌}
use mathlib.Core.List.{List}
use mathlib.Core.Logic.{⊎_elim}
use mathlib.Core.Path.{◌≡◌}
use native.Mathlib.Omega.{arith}
use lib.ListN.{get_or}
use borrow.Author.Count.{below_more}
use Rattle.layout.proofs.Laws.{lt-or-le}
use Rattle.placement.specs.Cover.{NoneFound}
use Rattle.placement.proofs.Laid.{Laid, laid_none}

module _ (offsets sizes : List ℕ) (h : ℕ) where
  pub joined_none : Laid offsets sizes 0 h h
  joined_none = record { inside = λ i l. absurd (omega arith); apart = λ i l. absurd (omega arith); covered = λ p l u. absurd (omega arith) }

  -- one more, that is empty or starts where they end
  pub joined_more : (i end : ℕ) → h ≤ end → Laid offsets sizes i h end → (0 < get_or sizes i 0 → get_or offsets i 0 ≡ end) → Laid offsets sizes (i + 1) h (end + get_or sizes i 0)
  joined_more i end behind so next = record {
    inside = below_more _ i (λ j l v. let s = so.inside j l v in (s.0, omega (arith, s.1))) (λ v. (omega (arith, next v), omega (arith, next v)));
    apart = below_more _ i so.apart (λ w. omega (arith, next w.2.0, (so.inside w.0 w.1 w.2.1.0).1, w.2.1.1.0));
    covered = λ p l u. ⊎_elim
        (λ v. let s = so.covered p l v in (s.0, omega (arith, s.1), s.2))
        (λ v. let filled : 0 < get_or sizes i 0 = omega arith in (i, omega arith, (filled, (omega (arith, next filled), omega (arith, next filled)))))
        (lt-or-le p end);
  }

  -- all of them, up to the product's end
  pub joined_all : (entries n i end : ℕ) → Laid offsets sizes i h end → i ≡ entries → end ≡ n → NoneFound offsets sizes entries h n
  joined_all entries n i end so e f = laid_none offsets sizes entries h n (rw (← e, ← f) so)
