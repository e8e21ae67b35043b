-- `words::headers::put_directory_numbers` meets its contract: the number of entries and the six arrays, one behind the other.
-- Assumes nothing.
use native.Mathlib.Omega.{arith}
use Rattle.writing.proofs.Puts.{then, at_most}
use Rattle.words.proofs.headers.put_directory_numbers.Goals as goal

pub returns : goal.returns
returns c =
    let put = then c.put_verdict-judged.ensures (then c.put_words-counted.ensures (then c.put_bytes-typed.ensures (then c.put_arrays-filled.ensures (then c.put_each-measured.ensures c.put_words.ensures)))) in
    at_most 772 put (omega (arith, put.narrow))
