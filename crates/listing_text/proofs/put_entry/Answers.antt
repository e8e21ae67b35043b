-- `listing_text::put_entry` meets its contract, for a spare and for any other entry.
-- Assumes nothing.
use native.Mathlib.Omega.{arith}
use Rattle.writing.proofs.Puts.{then, at_most, spelled}
use Rattle.listing_text.proofs.EntryLine.{spare-line, named-line}
use Rattle.listing_text.proofs.put_entry.Goals as goal

pub returns-then-entry-eq32 : goal.returns-then-entry-eq32
returns-then-entry-eq32 c =
    let a = c.args in
    let put = then c.put_text-begun.ensures (then c.put_number-numbered.ensures c.put_text.ensures) in
    let line = spelled (spare-line a.names.now a.entry c.if-entry-eq32.true) put in
    at_most 164 line (omega (arith, line.narrow))

pub returns : goal.returns
returns c =
    let a = c.args in
    let put = then c.put_text-begun.ensures (then c.put_number-numbered.ensures c.put_values.ensures) in
    spelled (named-line a.names.now a.entry (λ q. omega arith)) put
