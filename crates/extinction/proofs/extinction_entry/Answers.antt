-- `extinction::extinction_entry` meets its contract.
-- Assumes nothing.
use mathlib.Core.Path.{sym, ap, ◌∙◌}
use native.Mathlib.Omega.{arith}
use lib.IntN.{pos}
use lib.ListN.{get_or}
use mir.Syntax.{w64}
use mir.Val.{to_z, of_z}
use mir.Facts.{to_z-of_z}
use borrow.Author.Rules.{rules}
use Rattle.extinction.proofs.Found.{none_found, wrong_size, right_size}
use Rattle.extinction.proofs.extinction_entry.Goals as goal

pub returns-in_err-entry : goal.returns-in_err-entry
returns-in_err-entry c = rw c.from_residual.ensures (none_found _ c.in_err-entry.ensures)

pub returns-then-directory-entry-ne-RECORD_SIZE : goal.returns-then-directory-entry-ne-RECORD_SIZE
returns-then-directory-entry-ne-RECORD_SIZE c = wrong_size _ _ c.in_ok-entry.ensures (λ h. c.if-directory-entry-ne-RECORD_SIZE.true (ap (of_z w64) h))

pub returns : goal.returns
returns c =
    let found = c.in_ok-entry.ensures in
    let back = to_z-of_z {w = w64} {z = get_or c.args.directory.now.record_sizes c.in_ok-entry.entry (pos 0)} (search rules) in
    (right_size _ _ found (sym back ∙ ap (to_z w64) c.if-directory-entry-ne-RECORD_SIZE.false), omega (arith, found.1, c.requires))
