-- `placement::Extents::first_overlapping` meets its contract: what is left of each search, from `i` and from `j` on, is the whole search, and `low` and `high`
-- hold all lower sets.
-- Assumes nothing.
use Prim.Native.Nat.{◌+◌}
use mathlib.Core.Path.{sym, ◌∙◌}
use native.Mathlib.Omega.{arith}
use native.Mathlib.Nat.{sub-zero}
use Rattle.layout.proofs.Laws.{some_end}
use Rattle.placement.specs.Sets.{overlaps_at}
use Rattle.placement.proofs.Sets.{Lower, first_hit, first_miss, first-none, some_hit, some_miss, some-none, overlaps_lower, overlaps-none, overlapping, none-shares, one_more}
use Rattle.placement.proofs.Extents.first_overlapping.Goals as goal
use Rattle.placement.proofs.Extents.first_overlapping.Goals.{then-is_clear, else-is_clear, then-size-ne0, else-size-ne0}

pub loop-j-init : goal.loop-j-init
loop-j-init c =
    let i = c.loop-i.i in
    elim c.if-is_clear.branch [
      | then-is_clear w ↦ rw w.lower-is (none-shares _ _ _ _ _ c.loop-i.invariant.1 (c.is_clear.ensures w.if-is_clear.true) ∙ sym (some_end _ i))
      | else-is_clear w ↦ rw w.lower-is (rw (sub-zero i))
    ]

pub loop-j-preserved : goal.loop-j-preserved
unfolding overlaps_at
loop-j-preserved c = some_miss _ _ _ c.loop-j.invariant c.loop-j-test.true (sym c.share.ensures ∙ c.if-share.false)

pub loop-i-preserved : goal.loop-i-preserved
loop-i-preserved c =
    let l = c.loop-i in
    let self = c.args.self in
    let next : Lower self.offsets.now self.sizes.now (l.i + 1) c.if-size-ne0.low c.if-size-ne0.high =
    one_more _ _ _ _ _ l.invariant.1 _ _
    (elim c.if-size-ne0.branch [ then-size-ne0 w ↦ (omega arith, omega arith) | else-size-ne0 w ↦ (omega arith, omega arith) ])
    (elim c.if-size-ne0.branch [ then-size-ne0 w ↦ (omega arith, omega arith) | else-size-ne0 w ↦ (omega arith, omega arith) ]) in
    (first_miss _ _ _ _ l.invariant.0 c.loop-i-test.true (overlaps-none _ _ _ (some-none _ _ _ c.loop-j.invariant c.loop-j-test.false)), next)

pub returns-then-share : goal.returns-then-share
unfolding overlaps_at
returns-then-share c = (
  c.loop-i-test.true,
  overlapping _ _ _ _ (omega arith)
      (first_hit _ _ _ _ c.loop-i.invariant.0 _ _ _ c.loop-i-test.true
      (overlaps_lower _ _ _ (some_hit _ _ _ c.loop-j.invariant c.loop-j-test.true (sym c.share.ensures ∙ c.if-share.true)))),
)

pub returns-after-loop-i : goal.returns-after-loop-i
returns-after-loop-i c = overlapping _ _ _ _ (omega arith) (first-none _ _ _ _ c.loop-i.invariant.0 _ _ _ c.loop-i-test.false)
