-- `states::first_unfilled` meets its contract.
-- Assumes nothing.
use Prim.Native.Nat.{ℕ}
use mathlib.Core.Bool.{Bool, true, false}
use mathlib.Core.Path.{◌≡◌}
use native.Mathlib.Nat.{sub-zero}
use native.Mathlib.Omega.{arith}
use borrow.Author.Rules.{rules}
use Rattle.std.proofs.lemmas.Iterator.{first_from_Range}
use Rattle.layout.proofs.Below.{first_below}
use Rattle.states.specs.Roles.{unfilled_at}
use Rattle.states.proofs.first_unfilled.Goals as goal

pub returns : goal.returns
unfolding unfilled_at
returns c =
    let sets = c.args.sets.now in
    let t : ℕ → Bool = unfilled_at sets.roles sets.counts sets.sizes c.args.tally.now.counts c.args.tally.now.totals in
    rw sub-zero at (first_below t 0 sets.entries (omega arith) _
    (first_from_Range _ _ _ _ (λ i. t i ≡ true) (λ i. t i ≡ false) c.find.ensures.ran (λ x q k. search rules) (λ x q k. search rules)))
