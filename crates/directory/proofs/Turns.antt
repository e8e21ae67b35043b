-- One DSD: what rules 8 to 10 say of it, and what is held of its entry.
-- Assumes nothing.
use Prim.Native.Nat.{ℕ, ◌+◌, ◌*◌}
use mathlib.Core.Bool.{Bool, true, false, cond}
use mathlib.Core.List.{List}
use mathlib.Core.Path.{◌≡◌, refl}
use native.Mathlib.Omega.{arith}
use lib.Dec.{leb, eqb}
use Rattle.layout.specs.Answer.{need, ◌or_else◌}
use Rattle.layout.specs.Entries.{largest_signed, dsd_at, dsd_bytes, entry_at}
use Rattle.layout.specs.Rules.{rule8_at, rule9_at}
use Rattle.lines.specs.Table.{rule8_from}
use Rattle.dsd.specs.Held.{over_place}
use Rattle.directory.specs.Checks.{Dsds}

module _ (b : List ℕ) (dsds n i : ℕ) (placed : Dsds b dsds n) where
  pub place : dsds + 280 * i ≡ dsd_at b i
  unfolding dsd_at
  place = omega (arith, placed.begin)

  pub eight : rule8_from b dsds i ≡ rule8_at b i
  unfolding rule8_from rule8_at dsd_bytes
  eight = rw place

pub nine : (b : List ℕ) (i : ℕ) → rule9_at b i ≡ need (eqb (over_place (entry_at b i)) 0) 9 (dsd_at b i + over_place (entry_at b i)) i
unfolding rule9_at over_place
nine b i = go (leb (entry_at b i).offset.magnitude largest_signed) (leb (entry_at b i).size.magnitude largest_signed)
  where
    go : (t u : Bool) → (need t 9 (dsd_at b i + 133) i or_else need u 9 (dsd_at b i + 170) i)
        ≡ need (eqb (cond t (cond u 0 170) 133) 0) 9 (dsd_at b i + cond t (cond u 0 170) 133) i
    go true true = refl
    go true false = refl
    go false u = refl
