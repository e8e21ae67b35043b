-- `placement::Extents::are_joined` meets its contract: the sets so far lie as rules 12 to 14 say, from the headers' end to `end`.
-- Assumes nothing.
use native.Mathlib.Omega.{arith}
use borrow.Author.Tests.{eqb-true}
use Rattle.placement.proofs.Joined.{joined_more, joined_all}
use Rattle.placement.proofs.Extents.are_joined.Goals as goal

pub loop-i-preserved : goal.loop-i-preserved
loop-i-preserved c =
    let next = c.follows.ensures c.if-not-follows.false in
    let inv = c.loop-i.invariant in
    (omega arith, next.1, joined_more _ _ _ _ _ inv.0 inv.2 next.0)

pub returns : goal.returns
returns c = λ e. joined_all _ _ _ _ _ _ _ c.loop-i.invariant.2 (omega arith) (eqb-true _ _ e)
