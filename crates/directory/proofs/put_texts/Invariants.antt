use Prim.Native.Nat.{◌*◌}
use mathlib.Core.List.{map}
use Rattle.layout.specs.Search.{join, upto}
use Rattle.writing.specs.Put.{Put}
use Rattle.directory.specs.Texts.{text_at}
use Rattle.directory.proofs.put_texts.Given as goal

abbrev pub invariant-loop-i : goal.invariant-loop-i
invariant-loop-i l = Put (l.width * l.i) (join (map (text_at l.p l.from l.place l.width) (upto 0 l.i))) l.initial.room l.room l.at l.next
