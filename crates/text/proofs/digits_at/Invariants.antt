use Prim.Native.Nat.{◌≤◌}
use mathlib.Core.Path.{◌≡◌}
use lib.ListN.{drop}
use Rattle.layout.specs.Text.{digits}
use Rattle.text.specs.Numbers.{capped}
use Rattle.text.proofs.digits_at.Given as goal

abbrev pub invariant-loop-x : goal.invariant-loop-x
invariant-loop-x l = (l.magnitude ≤ 9223372036854775808) × (capped (digits 0 l.x-items) ≡ capped (digits l.magnitude (drop l.x-index l.x-items)))
