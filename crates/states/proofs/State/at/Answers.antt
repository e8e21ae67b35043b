-- `states::State::at` meets its contract.
-- Assumes nothing.
use Prim.Native.Nat.{◌+◌}
use mathlib.Core.Path.{sym, ◌∙◌}
use native.Mathlib.Omega.{arith}
use Rattle.layout.specs.States.{state_of}
use Rattle.states.specs.States.{state_is}
use Rattle.states.proofs.Laws.{unsigned-part, unsigned-one}
use Rattle.states.proofs.State.at.Goals as goal

pub returns : goal.returns
unfolding state_is state_of
returns c =
    let b = c.args.p.now in
    let at = c.args.at in
    λ j. record {
      flag = (sym (unsigned-one b (at + 12)) ∙ sym (unsigned-part b at 1387 12 1 (omega arith))) j;
      kind = (sym (unsigned-one b (at + 1116)) ∙ sym (unsigned-part b at 1387 1116 1 (omega arith))) j;
      count = (c.unsigned.ensures.0 ∙ sym (unsigned-part b at 1387 1381 2 (omega arith))) j;
      record_length = (c.unsigned-2.ensures.0 ∙ sym (unsigned-part b at 1387 1383 4 (omega arith))) j;
    }
