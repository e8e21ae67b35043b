-- `placement::Extents::one_holding` meets its contract: the two searches leave no entry out.
-- Assumes nothing.
use native.Mathlib.Omega.{arith}
use Rattle.placement.proofs.Cover.{holding_found, holding_before}
use Rattle.placement.proofs.Extents.one_holding.Goals as goal

pub returns-in-Some : goal.returns-in-Some
returns-in-Some c = let behind = c.in-Some.ensures in (behind.0, holding_found _ _ _ _ _ _ _ c.requires (omega arith) behind.1 behind.0)

pub returns-in-None : goal.returns-in-None
returns-in-None c = holding_before _ _ _ _ _ c.requires c.in-None.ensures _ c.first_holding-in-None.ensures
