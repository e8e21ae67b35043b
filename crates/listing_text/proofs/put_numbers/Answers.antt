-- `listing_text::put_numbers` meets its contract: the five puts make the numbers of the line.
-- Assumes nothing.
use mathlib.Core.List.{[]}
use borrow.Author.Rules.{rules}
use mir.Syntax.{w64}
use mir.Val.{to_z, of_z}
use mir.Facts.{to_z-of_z}
use Rattle.writing.proofs.Puts.{then, spelled}
use Rattle.listing_text.proofs.EntryLine.{numbers-line}
use Rattle.listing_text.proofs.put_numbers.Goals as goal

pub returns : goal.returns
returns c =
    let entry = c.args.entry in
    let back = to_z-of_z {w = w64} {z = entry.record_size} (search rules) in
    let measured = then c.put_signed-measured.ensures c.put_number.ensures in
    let counted = then c.put_number-counted.ensures measured in
    let sized = then c.put_number-sized.ensures counted in
    spelled (numbers-line [] entry (to_z w64 (of_z w64 entry.record_size)) back) (then c.put_number-placed.ensures sized)
