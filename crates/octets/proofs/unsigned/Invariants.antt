use Prim.Native.Nat.{◌^◌, ◌<◌}
use mathlib.Core.Path.{◌≡◌}
use Rattle.layout.specs.Bytes.{unsigned_at}
use Rattle.octets.proofs.unsigned.Given as goal

abbrev pub invariant-loop-byte : goal.invariant-loop-byte
invariant-loop-byte l = (l.v < 256 ^ l.byte-index) × (l.v ≡ unsigned_at l.p l.at l.byte-index)
