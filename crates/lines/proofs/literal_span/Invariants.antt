use Prim.Native.Nat.{◌-◌}
use mathlib.Core.Path.{◌≡◌}
use Rattle.layout.specs.Bytes.{part}
use Rattle.layout.specs.Text.{literal}
use Rattle.lines.specs.Table.{bad_place}
use Rattle.lines.proofs.literal_span.Given as goal

abbrev pub invariant-loop-i : goal.invariant-loop-i
invariant-loop-i l = bad_place (literal (part l.template l.from (l.to - l.from))) l.p l.from ≡ bad_place (literal (part l.template l.i (l.to - l.i))) l.p l.i
