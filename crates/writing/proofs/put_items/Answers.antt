-- `writing::put_items` meets its contract: one item more is stored in each turn.
-- Assumes nothing.
use mathlib.Core.Path.{refl, ◌∙◌}
use native.Mathlib.Omega.{arith}
use native.Mathlib.Numerals.{add-one}
use lib.Seq.{take_all}
use Rattle.writing.proofs.Puts.{one_more}
use Rattle.writing.proofs.put_items.Goals as goal

pub loop-i-preserved : goal.loop-i-preserved
loop-i-preserved g c =
    let i = c.loop-i.i in
    let item = c.index-items-i.result in
    rw (c.loop-i.invariant, c.index-items-i.is, one_more _ c.args.items.now _ i item (omega arith), add-one i)

pub returns : goal.returns
returns g c = record { next = refl; written = c.loop-i.invariant ∙ rw (take_all c.loop-i.i c.args.items.now (omega arith)); narrow = omega arith }
