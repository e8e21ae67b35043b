-- `states::bad_after` meets its contract.
-- Assumes nothing.
use mathlib.Core.Bool.{and-false}
use borrow.Author.Tests.{eq-eqb, ne_eqb}
use Rattle.states.proofs.bad_after.Goals as goal

pub returns-then-bad-i : goal.returns-then-bad-i
returns-then-bad-i c = rw (ne_eqb c.args.bad c.args.i c.if-bad-i.true)

pub returns-then-fits : goal.returns-then-fits
returns-then-fits c = rw (eq-eqb c.args.bad c.args.i c.if-bad-i.false, c.if-fits.true)

pub returns : goal.returns
returns c = rw (c.if-fits.false, and-false)
