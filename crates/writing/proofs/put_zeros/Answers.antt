-- `writing::put_zeros` meets its contract.
-- Assumes nothing.
use Prim.Native.Nat.{ℕ}
use mathlib.Core.Path.{ap, ◌∙◌}
use lib.ListN.{replicate, length-replicate}
use Rattle.writing.proofs.Puts.{pasted, lent_length}
use Rattle.writing.proofs.put_zeros.Goals as goal

pub returns : goal.returns
returns c =
    let n = c.args.count in
    let zeros = c.fill.ensures.after (λ y e. e) ∙ ap (λ (k : ℕ). replicate k 0) (lent_length c.args.out.now c.args.at n c.requires) in
    pasted c.args.out.now (replicate n 0) c.args.at zeros (length-replicate n 0) c.requires
