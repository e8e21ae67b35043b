-- `words::headers::put_directory_texts` meets its contract.
-- Assumes nothing.
use native.Mathlib.Omega.{arith}
use Rattle.writing.proofs.Puts.{at_most}
use Rattle.words.specs.Headers.{directory_texts}
use Rattle.words.proofs.headers.put_directory_texts.Goals as goal

pub returns : goal.returns
unfolding directory_texts
returns c =
    let put = c.put_two_texts.ensures in
    at_most 11520 put (omega (arith, put.narrow))
