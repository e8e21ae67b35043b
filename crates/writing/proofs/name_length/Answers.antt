-- `writing::name_length` meets its contract.
-- Assumes nothing.
use Prim.Native.Nat.{◌+◌, ◌-◌}
use mathlib.Core.Path.{◌≡◌, ◌∙◌}
use native.Mathlib.Omega.{arith}
use Rattle.writing.proofs.Names.{kept_less, kept-all, kept-none}
use Rattle.writing.proofs.name_length.Goals as goal

pub returns-then-names-start-ne32 : goal.returns-then-names-start-ne32
returns-then-names-start-ne32 c =
    let all = c.loop-last.invariant ∙ kept-all c.args.names.now c.args.start c.loop-last.last (omega arith) (omega arith) c.if-names-start-ne32.true in
    let same : c.loop-last.last - 1 + 1 ≡ c.loop-last.last = omega arith in
    (omega arith, rw same all)

pub loop-last-preserved : goal.loop-last-preserved
loop-last-preserved c = c.loop-last.invariant ∙ kept_less c.args.names.now c.args.start c.loop-last.last (omega arith) (omega arith) (omega arith)

pub returns : goal.returns
returns c =
    let none : c.loop-last.last ≡ 0 = omega arith in
    (omega arith, rw none at c.loop-last.invariant ∙ kept-none c.args.names.now c.args.start)
