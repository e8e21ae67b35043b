use Prim.Native.Nat.{◌≤◌}
use mathlib.Core.Path.{◌≡◌}
use Rattle.layout.specs.Records.{variable_lengths}
use Rattle.states.specs.States.{states_from, cap, found_behind, found}
use Rattle.states.proofs.Laws.{rest_from}
use Rattle.states.proofs.find_record.Given as goal

abbrev pub invariant-loop-i : goal.invariant-loop-i
invariant-loop-i l =
    (l.before ≤ cap)
    × (found (variable_lengths (states_from l.p l.start l.count) l.kind) l.asked ≡ found_behind l.before (variable_lengths (rest_from l.p l.start l.count l.i) l.kind) l.left)
