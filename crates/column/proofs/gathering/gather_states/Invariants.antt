use Prim.Native.Nat.{◌+◌, ◌*◌, ◌≤◌, ◌<◌}
use lib.ListN.{length}
use Rattle.layout.specs.States.{size_of_state}
use Rattle.layout.specs.Records.{variable_lengths}
use Rattle.states.proofs.Laws.{rest_from}
use Rattle.column.proofs.Asked.{ns, begin}
use Rattle.column.proofs.Walk.{Walked}
use Rattle.column.proofs.gathering.gather_states.Given as goal

abbrev pub invariant-loop-i : goal.invariant-loop-i
invariant-loop-i l =
    (l.span.place + size_of_state * l.span.count ≤ length l.p)
    × (l.first < l.request.to)
    × Walked l.p l.request (begin l.p l.request) (ns l.p l.request) l.initial.column (variable_lengths (rest_from l.p l.span.place l.span.count l.i) l.number) l.first l.place l.column
