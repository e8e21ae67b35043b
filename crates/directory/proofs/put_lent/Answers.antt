-- `directory::put_lent` meets its contract.
-- Assumes nothing.
use Rattle.writing.proofs.Puts.{at_most, spelled}
use Rattle.directory.proofs.Texts.{lent_first, part-narrow}
use Rattle.directory.proofs.put_lent.Goals as goal

pub returns : goal.returns
returns c =
    let first = lent_first c.args.p.now c.args.start c.args.width c.requires.1 c.requires.0 c.put_text.ensures in
    let put = spelled first c.put_text-2.ensures in
    at_most c.args.width put (part-narrow c.args.p.now c.args.start c.args.width)
