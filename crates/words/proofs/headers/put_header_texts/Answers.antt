-- `words::headers::put_header_texts` meets its contract: the texts of the four parts that have some.
-- Assumes nothing.
use native.Mathlib.Omega.{arith}
use Rattle.writing.proofs.Puts.{then, at_most}
use Rattle.words.specs.Headers.{header_texts}
use Rattle.words.proofs.headers.put_header_texts.Goals as goal

pub returns : goal.returns
unfolding header_texts
returns c =
    let put = then c.put_identity_texts-identified.ensures (then c.put_two_texts-sensed.ensures (then c.put_two_texts-placed.ensures c.put_two_texts.ensures)) in
    at_most 289 put (omega (arith, put.narrow))
