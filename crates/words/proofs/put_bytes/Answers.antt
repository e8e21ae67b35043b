-- `words::put_bytes` meets its contract: a byte's word is the byte.
-- Assumes nothing.
use Rattle.std.proofs.lemmas.List.{map-id}
use Rattle.writing.proofs.Puts.{spelled}
use Rattle.words.proofs.put_bytes.Goals as goal

pub returns : goal.returns
returns c = spelled (map-id c.args.bytes.now) c.put_each.ensures
