-- `values::whole_at` meets its contract: the magnitude fits, so that the number held is the true one.
-- Assumes nothing.
use Prim.Native.Nat.{ℕ, ◌≤◌, ◌<◌}
use mathlib.Core.Path.{ap, ◌∙◌}
use native.Mathlib.Omega.{arith}
use lib.ListN.{get_or}
use Rattle.layout.specs.Bytes.{part}
use Rattle.layout.specs.Text.{number_of}
use Rattle.text.specs.Numbers.{whole_in}
use Rattle.text.proofs.Laws.{magnitude-fits, whole_true}
use borrow.Author.Rules.{rules}
use Rattle.values.proofs.Values.{kept, number_fits}
use Rattle.values.proofs.whole_at.Goals as goal

pub whole-requires : goal.whole-requires
whole-requires c =
    let bytes : (k : ℕ) → get_or c.args.p.now k 0 < 256 = λ k. search rules in
    let fits : (number_of (part c.args.p.now c.args.at c.args.width)).magnitude ≤ 9223372036854775807 = number_fits _ _ _ bytes c.requires.2 in
    rw c.number_at-number.ensures (omega (arith, (magnitude-fits c.args.p.now c.args.at c.args.width).1 fits))

pub returns : goal.returns
returns c =
    let bytes : (k : ℕ) → get_or c.args.p.now k 0 < 256 = λ k. search rules in
    let fits : (number_of (part c.args.p.now c.args.at c.args.width)).magnitude ≤ 9223372036854775807 = number_fits _ _ _ bytes c.requires.2 in
    kept c.whole.type_inv
    ∙ c.whole.ensures
    ∙ ap whole_in c.number_at-number.ensures
    ∙ whole_true c.args.p.now c.args.at c.args.width ((magnitude-fits _ _ _).1 fits)
