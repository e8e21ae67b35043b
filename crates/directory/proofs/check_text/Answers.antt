-- `directory::check_text` meets its contract.
-- Assumes nothing.
use mathlib.Core.Path.{sym, ◌∙◌}
use native.Mathlib.Omega.{arith}
use borrow.Author.Tests.{eq-eqb, ne_eqb}
use Rattle.layout.proofs.Laws.{first_same}
use Rattle.directory.proofs.Turns.{eight}
use Rattle.directory.proofs.Rules.{seven, eight_all}
use Rattle.directory.specs.Checks.{text_rules}
use Rattle.directory.proofs.check_text.Goals as goal

pub first_bad_line-bad-requires : goal.first_bad_line-bad-requires
first_bad_line-bad-requires c = (c.requires.behind, omega (arith, c.requires.inside))

pub returns-then-bad-dsds : goal.returns-then-bad-dsds
unfolding text_rules
returns-then-bad-dsds c =
    let args = c.args in
    λ n. c.refuse.ensures.judged ∙ sym (rw (seven args.p.now args.dsds args.entries c.requires c.first_bad_line-bad.result c.first_bad_line-bad.ensures n, ne_eqb c.first_bad_line-bad.result args.dsds c.if-bad-dsds.true))

pub returns : goal.returns
unfolding text_rules
returns c =
    let args = c.args in
    let pre = c.requires in
    λ n. c.dsds_check.ensures ∙ first_same _ _ 0 _ (λ k l u. eight _ _ _ k pre) ∙ sym (rw (seven args.p.now args.dsds args.entries pre c.first_bad_line-bad.result c.first_bad_line-bad.ensures n, eq-eqb c.first_bad_line-bad.result args.dsds c.if-bad-dsds.false, eight_all args.p.now args.dsds args.entries pre n))
