-- `dsd::is_negative` meets its contract.
-- Assumes nothing.
use borrow.Author.Tests.{eq-eqb, ne_eqb}
use mathlib.Core.Path.{sym}
use Rattle.dsd.specs.Held.{number_from}
use Rattle.layout.proofs.Laws.{not-not}
use Rattle.dsd.proofs.Numbers.{from_zero}
use Rattle.dsd.proofs.is_negative.Goals as goal

pub returns-then-n-eq0 : goal.returns-then-n-eq0
unfolding number_from
returns-then-n-eq0 c = rw (from_zero (number_from c.args.n), eq-eqb c.args.n.magnitude 0 c.if-n-eq0.true)

pub returns : goal.returns
unfolding number_from
returns c = rw (from_zero (number_from c.args.n), ne_eqb c.args.n.magnitude 0 c.if-n-eq0.false) (sym (not-not c.args.n.minus))
