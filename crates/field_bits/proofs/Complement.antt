-- Four bytes in 32 bits.
-- Assumes nothing.
use Prim.Native.Nat.{ℕ, ◌<◌}
use mathlib.Core.Logic.{⊎_elim}
use mathlib.Core.Path.{◌≡◌}
use native.Mathlib.Omega.{arith}
use borrow.Author.Tests.{lt-ltb, le-ltb}
use Rattle.layout.specs.Bytes.{twos_complement}
use Rattle.layout.proofs.Laws.{lt-or-le}
use Rattle.field_bits.specs.Bits.{complement}

-- four bytes are their own two's complement
pub four_bytes : (v : ℕ) → v < 4294967296 → v ≡ complement (twos_complement 2147483648 v)
unfolding complement twos_complement
four_bytes v h = ⊎_elim (λ l. rw (lt-ltb v 2147483648 l)) (λ l. rw (le-ltb v 2147483648 l) (omega arith)) (lt-or-le v 2147483648)
