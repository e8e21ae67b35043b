-- `header::size_rules` meets its contract where its second test fails, and where all three pass. Assumes nothing.
use Rattle.header.proofs.Rules.{refuses, dsds_refused, sizes_good}
use Rattle.header.proofs.size_rules.Goals as goal

pub returns-then-not-dsds_fit : goal.returns-then-not-dsds_fit
returns-then-not-dsds_fit c =
    refuses _ _ _ _ _ c.refuse-then-not-dsds_fit.ensures.is
    (dsds_refused _ c.type_inv.p _ _ c.number_at-sph_size.ensures _ c.sph_fits.ensures c.if-not-sph_fits.false
    _ c.number_at-num_dsd.ensures _ c.dsds_fit.ensures c.if-not-dsds_fit.true)

pub returns : goal.returns
returns c =
    sizes_good _ c.type_inv.p _ _ c.number_at-sph_size.ensures _ c.sph_fits.ensures c.if-not-sph_fits.false
    _ c.number_at-num_dsd.ensures _ c.dsds_fit.ensures c.if-not-dsds_fit.false _ c.whole_at.ensures c.whole_at.type_inv c.if-whole_at.false
