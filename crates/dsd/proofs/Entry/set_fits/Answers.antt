-- `dsd::Entry::set_fits` meets its contract.
-- Assumes nothing.
use mathlib.Core.Path.{sym, ◌∙◌}
use Rattle.dsd.specs.Held.{view_of, number_from}
use Rattle.dsd.proofs.Fits.{set-empty, set_uncounted, set_fixed, set_variable}
use Rattle.dsd.proofs.Entry.set_fits.Goals as goal

pub returns-then-self-eq0 : goal.returns-then-self-eq0
unfolding view_of number_from
returns-then-self-eq0 c =
    set-empty (view_of c.args.self) c.requires c.if-self-eq0.true

pub returns-then-self-eq0-2 : goal.returns-then-self-eq0-2
unfolding view_of number_from
returns-then-self-eq0-2 c =
    set_uncounted (view_of c.args.self) c.requires c.if-self-eq0.false c.if-self-eq0-2.true

pub returns-then-is_fixed : goal.returns-then-is_fixed
unfolding view_of number_from
returns-then-is_fixed c =
    set_fixed (view_of c.args.self) c.requires c.if-self-eq0.false c.if-self-eq0-2.false (sym c.is_fixed.ensures ∙ c.if-is_fixed.true)

pub returns : goal.returns
unfolding view_of number_from
returns c =
    c.is_variable.ensures ∙ set_variable (view_of c.args.self) c.requires c.if-self-eq0.false c.if-self-eq0-2.false (sym c.is_fixed.ensures ∙ c.if-is_fixed.false)
