-- `states::add_state` meets its contract.
-- Assumes nothing.
use native.Mathlib.Omega.{arith}
use Rattle.states.specs.States.{state_is}
use Rattle.states.proofs.Sums.{bytes_small}
use Rattle.states.proofs.Laws.{with_parts}
use borrow.Author.Rules.{rules}
use Rattle.states.proofs.Tally.add_state.Goals as goal

pub overflow_mul-more : goal.overflow_mul-more
overflow_mul-more c =
    let q = bytes_small c.adds_to-more.result c.args.state.now.record_length c.adds_to-more.ensures.1 (search rules) in
    omega arith

pub add_at-requires-2 : goal.add_at-requires-2
add_at-requires-2 c =
    (c.requires.1, bytes_small c.adds_to-more.result c.args.state.now.record_length c.adds_to-more.ensures.1 (search rules))

pub returns : goal.returns
unfolding state_is
returns c =
    with_parts _ _ _ c.args.i _ _ c.adds_to-more.ensures.0 c.fits.ensures c.bad_after-self.ensures c.add_at.ensures c.add_at-2.ensures
