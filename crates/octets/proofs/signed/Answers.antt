-- `octets::signed` meets its contract: the half is 1 shifted whole, and twice it is what the bytes are below. Assumes nothing.
use Prim.Native.Nat.{ℕ, ◌*◌, ◌-◌, ◌^◌, ◌≤◌, ◌<◌}
use mathlib.Core.Path.{sym, ap₂, ◌∙◌, subst}
use native.Mathlib.Omega.{arith}
use borrow.Author.Rules.{sfits_of}
use lib.Signed.{mag}
use mir.Facts.{to_z-of_z}
use Rattle.layout.specs.Bytes.{twos_complement, signed_at}
use Rattle.octets.proofs.Digits.{half_is, twice_half, half_le}
use Rattle.octets.proofs.signed.Goals as goal

pub twos_complement-requires : goal.twos_complement-requires
twos_complement-requires c =
    let w = c.args.width in
    let e = half_is w (omega arith) in
    (subst (λ (h : ℕ). h ≤ 2 ^ 31) (sym e) (half_le w (omega arith)), subst (λ (h : ℕ). c.unsigned.result < 2 * h) (sym e) (rw (twice_half w (omega arith)) at c.unsigned.ensures.1))

pub returns : goal.returns
unfolding signed_at
returns c =
    let w = c.args.width in
    let e = half_is w (omega arith) in
    let m : mag c.twos_complement.result < 2 ^ (8 * w - 1) = rw e at c.twos_complement.ensures.1 in
    rw (to_z-of_z (sfits_of c.twos_complement.type_inv))
    (c.twos_complement.ensures.0 ∙ ap₂ twos_complement e c.unsigned.ensures.0, m)
