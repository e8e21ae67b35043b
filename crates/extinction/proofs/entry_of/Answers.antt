-- `extinction::entry_of` meets its contract, by the promise of `open_directory`.
-- Assumes nothing.
use mathlib.Core.Path.{sym, ap, ◌∙◌}
use Rattle.layout.specs.Answers.{reply_is, reply}
use Rattle.extinction.proofs.Calls.{refused-product, few-entries, no_set, the_set}
use Rattle.extinction.proofs.entry_of.Goals as goal

pub returns-in-Err : goal.returns-in-Err
unfolding reply_is
returns-in-Err c = refused-product _ _ _ _ (sym c.open_directory.ensures ∙ ap reply c.in-Err.is)

pub extinction_entry-requires : goal.extinction_entry-requires
unfolding reply_is
extinction_entry-requires c = few-entries _ _ (sym c.open_directory.ensures ∙ ap reply c.in-Ok.is)

pub returns-in-Some : goal.returns-in-Some
unfolding reply_is
returns-in-Some c = the_set _ _ (sym c.open_directory.ensures ∙ ap reply c.in-Ok.is) _ c.in-Some.ensures

pub returns-in-None : goal.returns-in-None
unfolding reply_is
returns-in-None c =
    ap reply c.refuse.ensures.is ∙ no_set _ _ (sym c.open_directory.ensures ∙ ap reply c.in-Ok.is) c.in-None.ensures
