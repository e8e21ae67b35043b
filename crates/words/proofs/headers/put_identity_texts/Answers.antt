-- `words::headers::put_identity_texts` meets its contract: three pairs of texts, one behind the other.
-- Assumes nothing.
use native.Mathlib.Omega.{arith}
use Rattle.writing.proofs.Puts.{then, at_most}
use Rattle.words.specs.Headers.{identity_texts}
use Rattle.words.proofs.headers.put_identity_texts.Goals as goal

pub returns : goal.returns
unfolding identity_texts
returns c =
    let put = then c.put_two_texts-named.ensures (then c.put_two_texts-acquired.ensures c.put_two_texts.ensures) in
    at_most 152 put (omega (arith, put.narrow))
