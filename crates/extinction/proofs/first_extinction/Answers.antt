-- `extinction::first_extinction` meets its contract.
-- Assumes nothing.
use Prim.Native.Nat.{ℕ}
use mathlib.Core.Bool.{Bool, true, false}
use mathlib.Core.Path.{◌≡◌}
use borrow.Author.Rules.{rules}
use Rattle.std.proofs.lemmas.Iterator.{first_from_Range}
use Rattle.extinction.specs.Found.{is_extinction_in}
use Rattle.layout.proofs.Below.{first_below}
use Rattle.extinction.proofs.first_extinction.Goals as goal

pub returns : goal.returns
returns c =
    let t : ℕ → Bool = is_extinction_in c.args.directory.now in
    first_below t _ _ c.requires.0 _
    (first_from_Range _ _ _ _ (λ i. t i ≡ true) (λ i. t i ≡ false) c.find.ensures.ran (λ x q k. search rules) (λ x q k. search rules))
