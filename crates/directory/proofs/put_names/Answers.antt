-- `directory::put_names` meets its contract.
-- Assumes nothing.
use Rattle.writing.proofs.Puts.{spelled}
use Rattle.directory.proofs.Texts.{names-are}
use Rattle.directory.proofs.put_names.Goals as goal

pub returns : goal.returns
returns c =
    let args = c.args in
    spelled (names-are args.p.now args.from args.n) c.put_texts.ensures
