-- `directory::put_filenames` meets its contract.
-- Assumes nothing.
use Rattle.writing.proofs.Puts.{spelled}
use Rattle.directory.proofs.Texts.{filenames-are}
use Rattle.directory.proofs.put_filenames.Goals as goal

pub returns : goal.returns
returns c =
    let args = c.args in
    spelled (filenames-are args.p.now args.from args.n) c.put_texts.ensures
