-- `text::magnitude_at` meets its contract: ten digits need no cap, with ten zeros before them or without.
-- Assumes nothing.
use Prim.Native.Nat.{◌+◌}
use native.Mathlib.Omega.{arith}
use Rattle.text.proofs.Numbers.{all_digits, all_zeros, ten-is, twenty_is}
use Rattle.text.proofs.Tests.{both_true}
use Rattle.text.proofs.magnitude_at.Goals as goal

pub ten_digits-requires : goal.ten_digits-requires
ten_digits-requires c =
    let both = both_true c.all_in.result c.all_in-then-to-from-eq20.result c.if-all_in.true in (omega arith, all_digits _ _ (c.args.from + 20) _ _ c.all_in-then-to-from-eq20.ensures both.1 (omega arith) (omega arith))

pub returns-then-all_in : goal.returns-then-all_in
returns-then-all_in c =
    let both = both_true c.all_in.result c.all_in-then-to-from-eq20.result c.if-all_in.true in
    let zeros = all_zeros _ _ (c.args.from + 10) 10 _ c.all_in.ensures both.0 (omega arith) (omega arith) in
    twenty_is _ _ _ _ c.if-to-from-eq20.true (omega arith) zeros (all_digits _ _ (c.args.from + 20) _ _ c.all_in-then-to-from-eq20.ensures both.1 (omega arith) (omega arith)) c.ten_digits.ensures

pub ten_digits-requires-then-all_in-2 : goal.ten_digits-requires-then-all_in-2
ten_digits-requires-then-all_in-2 c = (omega arith, all_digits _ _ (c.args.from + 10) _ _ c.all_in-then-to-from-eq10.ensures c.if-all_in-2.true (omega arith) (omega arith))

pub returns-then-all_in-2 : goal.returns-then-all_in-2
returns-then-all_in-2 c = ten-is _ _ _ _ c.if-to-from-eq10.true c.ten_digits-then-all_in-2.ensures
