-- `dsd::Entry::numbers_fit` meets its contract.
-- Assumes nothing.
use mathlib.Core.Path.{sym, ◌∙◌}
use Rattle.dsd.specs.Held.{view_of}
use Rattle.dsd.proofs.Fits.{fits_reference, fits-spare, fits_out, fits-set}
use Rattle.dsd.proofs.Entry.numbers_fit.Goals as goal

pub returns-then-self-eq82 : goal.returns-then-self-eq82
unfolding view_of
returns-then-self-eq82 c = c.is_zero.ensures ∙ fits_reference (view_of c.args.self) c.if-self-eq82.true

pub returns-then-not-is_data : goal.returns-then-not-is_data
unfolding view_of
returns-then-not-is_data c = fits-spare (view_of c.args.self) c.if-self-eq82.false (sym c.is_data.ensures ∙ c.if-not-is_data.true)

pub returns-then-not-is_in_range : goal.returns-then-not-is_in_range
unfolding view_of
returns-then-not-is_in_range c =
    let is-data = c.is_data in
    fits_out (view_of c.args.self) c.if-self-eq82.false (sym is-data.ensures ∙ c.if-not-is_data.false)
    (sym c.is_in_range.ensures ∙ c.if-not-is_in_range.true)

pub set_fits-requires : goal.set_fits-requires
set_fits-requires c = sym c.is_in_range.ensures ∙ c.if-not-is_in_range.false

pub returns : goal.returns
unfolding view_of
returns c =
    let is-data = c.is_data in
    c.set_fits.ensures
    ∙ fits-set (view_of c.args.self) c.if-self-eq82.false (sym is-data.ensures ∙ c.if-not-is_data.false)
    (sym c.is_in_range.ensures ∙ c.if-not-is_in_range.false)
