-- `states::find_record` meets its contract: what is left of the search from state `i` on is the whole search.
-- Assumes nothing.
use native.Mathlib.Omega.{arith}
use borrow.Author.Rules.{rules}
use Rattle.states.specs.States.{state_is, state_from, found}
use Rattle.states.proofs.Sums.{bytes_small, capped_le}
use Rattle.states.proofs.Laws.{rest_whole, record_here, record_later, record_nowhere}
use Rattle.states.proofs.find_record.Goals as goal

pub loop-i-init : goal.loop-i-init
unfolding found
loop-i-init c = (omega arith, rw rest_whole)

pub adds_to-n-requires : goal.adds_to-n-requires
adds_to-n-requires c = tt

pub overflow_mul-left : goal.overflow_mul-left
overflow_mul-left c =
    let q = bytes_small c.loop-i.left c.at-state.result.record_length (omega (arith, c.adds_to-n.ensures.1)) (search rules) in
    omega arith

pub plus-requires : goal.plus-requires
plus-requires c =
    let l = c.loop-i in
    (l.invariant.0, bytes_small l.left c.at-state.result.record_length (omega (arith, c.adds_to-n.ensures.1)) (search rules))

pub returns-then-left-n : goal.returns-then-left-n
unfolding state_is state_from
returns-then-left-n c =
    let l = c.loop-i in
    record_here _ _ _ _ l.i _ _ _ l.invariant.1 (state_is c.at-state.result) _ _ (omega arith) c.at-state.ensures c.adds_to-n.ensures.0 c.if-left-n.true c.plus.ensures

pub overflow_mul-n : goal.overflow_mul-n
overflow_mul-n c =
    let n = c.adds_to-n in
    let q = bytes_small n.result c.at-state.result.record_length n.ensures.1 (search rules) in
    omega arith

pub plus-before-requires : goal.plus-before-requires
plus-before-requires c =
    let n = c.adds_to-n in
    (c.loop-i.invariant.0, bytes_small n.result c.at-state.result.record_length n.ensures.1 (search rules))

pub loop-i-preserved : goal.loop-i-preserved
unfolding state_is state_from
loop-i-preserved c =
    let l = c.loop-i in
    (rw c.plus-before.ensures (capped_le _), record_later _ _ _ _ l.i _ _ _ l.invariant.1 (state_is c.at-state.result) _ _ (omega arith) c.at-state.ensures c.adds_to-n.ensures.0 c.if-left-n.false c.plus-before.ensures)

pub returns : goal.returns
returns c = record_nowhere _ _ _ _ _ _ _ _ c.loop-i.invariant.1 (omega arith)
