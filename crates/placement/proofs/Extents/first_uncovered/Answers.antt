-- `placement::Extents::first_uncovered` meets its contract: what is left of the search from `p` on is the whole search.
-- Assumes nothing.
use native.Mathlib.Omega.{arith}
use Rattle.placement.proofs.Sets.{first_hit, first-none}
use Rattle.placement.proofs.Cover.{byte_uncovered, jump, uncovered}
use Rattle.placement.proofs.Extents.first_uncovered.Goals as goal

pub returns-in_default : goal.returns-in_default
returns-in_default c = (
  c.loop-p-test.true,
  uncovered _ _ _ _ _ _ (omega arith) (first_hit _ _ _ _ c.loop-p.invariant.1 _ _ _ c.loop-p-test.true (byte_uncovered _ _ _ _ (c.in_default.ensures.missed (omega arith)))),
)

pub returns-then-length-p : goal.returns-then-length-p
returns-then-length-p c =
    let i = c.in-Some.ensures in
    let h = i.1.found i.0 in
    let n = c.args.length in
    uncovered _ _ _ _ _ _ (omega arith)
    (first-none _ _ _ _ (jump _ _ _ _ _ _ _ c.loop-p.invariant.1 i.0 h.0 n (omega arith) (omega arith) (omega (arith, h.0, h.1))) _ _ _ (omega arith))

pub loop-p-preserved : goal.loop-p-preserved
loop-p-preserved c =
    let i = c.in-Some.ensures in
    let h = i.1.found i.0 in
    (omega arith, jump _ _ _ _ _ _ _ c.loop-p.invariant.1 i.0 h.0 _ (omega arith) (omega arith) (omega (arith, h.0, h.1)))

pub returns : goal.returns
returns c = uncovered _ _ _ _ _ _ (omega arith) (first-none _ _ _ _ c.loop-p.invariant.1 _ _ _ c.loop-p-test.false)
