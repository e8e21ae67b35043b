use mathlib.Core.List.{map}
use mathlib.Core.Path.{◌≡◌}
use lib.Seq.{sets}
use Rattle.layout.specs.Search.{upto}
use Rattle.fields.specs.Kinds.{narrow_number}
use Rattle.field_bits.specs.Bits.{field_bits}
use Rattle.field_bits.proofs.store_of.Given as goal

abbrev pub invariant-loop-k : goal.invariant-loop-k
invariant-loop-k l = l.column ≡ sets l.initial.column l.at (map (field_bits l.p l.place l.size l.offset (narrow_number l.kind)) (upto 0 l.k))
