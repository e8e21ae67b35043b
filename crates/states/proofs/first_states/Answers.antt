-- `states::first_states` meets its contract.
-- Assumes nothing.
use Prim.Native.Nat.{ℕ}
use mathlib.Core.Bool.{Bool, true, false}
use mathlib.Core.Path.{◌≡◌}
use borrow.Author.Rules.{rules}
use Rattle.std.proofs.lemmas.Iterator.{first_from_Range}
use Rattle.layout.proofs.Below.{first_below}
use Rattle.states.specs.Roles.{describes_at}
use Rattle.states.proofs.first_states.Goals as goal

pub returns : goal.returns
unfolding describes_at
returns c =
    let t : ℕ → Bool = describes_at c.args.sets.now.roles in
    first_below t _ _ c.requires.0 _
    (first_from_Range _ _ _ _ (λ i. t i ≡ true) (λ i. t i ≡ false) c.find.ensures.ran (λ x q k. search rules) (λ x q k. search rules))
