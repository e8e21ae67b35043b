-- `product::part_at` meets its contract.
-- Assumes nothing.
use Prim.Native.Nat.{◌+◌, ◌-◌}
use mathlib.Core.Path.{◌≡◌}
use native.Mathlib.Omega.{arith}
use Rattle.layout.specs.Bytes.{part}
use Rattle.product.proofs.part_at.Goals as goal

pub returns : goal.returns
unfolding part
returns c =
    let a = c.args in
    let q : a.span.place + a.span.length - a.span.place ≡ a.span.length = omega arith in
    rw q
