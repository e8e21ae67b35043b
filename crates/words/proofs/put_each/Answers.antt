-- `words::put_each` meets its contract: one item more is stored in each turn.
-- Assumes nothing.
use Prim.Native.Nat.{◌<◌}
use mathlib.Core.Path.{◌≡◌, sym, ap, ◌∙◌}
use mathlib.Core.List.{map}
use native.Mathlib.Omega.{arith}
use native.Mathlib.Numerals.{add-one}
use lib.ListN.{length, get_or, length-map, get_or-map}
use Rattle.writing.proofs.Puts.{one_more}
use Rattle.words.proofs.put_each.Goals as goal

pub loop-i-preserved : goal.loop-i-preserved
loop-i-preserved g c =
    let word = g.W.HasWord.in_word in
    let i = c.loop-i.i in
    let items = c.args.items.now in
    let item = c.index-items-i.result in
    let is : c.word.result ≡ get_or (map word items) i (word item) = c.word.ensures ∙ ap word c.index-items-i.is ∙ sym (get_or-map word items i item) in
    let below : i < length (map word items) = rw length-map (omega arith) in
    rw (c.loop-i.invariant, is, one_more _ (map word items) _ i (word item) below, add-one i)
