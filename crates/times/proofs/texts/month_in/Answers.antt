-- `times::texts::month_in` meets its contract.
-- Assumes nothing.
use Prim.Native.Nat.{ℕ, ◌+◌, ◌*◌}
use mathlib.Core.Path.{◌≡◌, ap, ◌∙◌}
use native.Mathlib.Omega.{arith}
use lib.Dec.{leb}
use lib.ListN.{get_or}
use Rattle.std.specs.Bool.{then_some}
use Rattle.times.proofs.Months.{month-numbered}
use Rattle.times.proofs.Reading.{three_letters}
use Rattle.times.proofs.texts.month_in.Goals as goal

pub returns : goal.returns
returns c =
    let t = c.args.text.now in
    let a = get_or t 3 0 in
    let b = get_or t 4 0 in
    let d = get_or t 5 0 in
    let name : c.from_le_bytes.result ≡ a + 256 * b + 65536 * d = omega (arith, c.from_le_bytes.ensures) in
    c.month_of_name.ensures
    ∙ ap (λ (m : ℕ). then_some (leb m 12) m)
    (rw (name, three_letters t c.requires) (month-numbered a b d (omega (arith, c.type_inv.text 3)) (omega (arith, c.type_inv.text 4)) (omega (arith, c.type_inv.text 5))))
