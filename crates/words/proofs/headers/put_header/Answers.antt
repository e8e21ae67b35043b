-- `words::headers::put_header` meets its contract: the six parts, one behind the other.
-- Assumes nothing.
use Rattle.writing.proofs.Puts.{then}
use Rattle.words.specs.Headers.{header_words}
use Rattle.words.proofs.headers.put_header.Goals as goal

pub returns : goal.returns
unfolding header_words
returns c = then c.put_verdict-judged.ensures (then c.put_identity-identified.ensures (then c.put_sensing-sensed.ensures (then c.put_orbit-placed.ensures (then c.put_clock-timed.ensures c.put_sizes.ensures))))
