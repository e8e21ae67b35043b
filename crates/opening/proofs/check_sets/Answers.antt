-- `opening::check_sets` meets its contract.
-- Assumes nothing.
use mathlib.Core.Path.{◌∙◌}
use native.Mathlib.Omega.{arith}
use Rattle.layout.specs.Answers.{verdict_is}
use Rattle.layout.proofs.Replies.{handed-verdict}
use Rattle.directory.proofs.Rules.{dsds_of}
use Rattle.opening.proofs.Opened.{numbers-refused, places_last}
use Rattle.opening.proofs.check_sets.Goals as goal

pub dsds-requires : goal.dsds-requires
dsds-requires c = omega (arith, c.requires.0.headers.room)

pub check_numbers-requires : goal.check_numbers-requires
check_numbers-requires c = let pre = c.requires in (rw c.dsds.ensures (dsds_of pre.0.headers), pre.1.read)

pub returns-in_err-check_numbers : goal.returns-in_err-check_numbers
unfolding verdict_is
returns-in_err-check_numbers c =
    let pre = c.requires in
    handed-verdict _ _ c.from_residual.ensures ∙ numbers-refused _ c.args.length _ pre.0 _ _ _ pre.1 _ (c.in_err-check_numbers.ensures c.args.length)

pub check_places-requires : goal.check_places-requires
check_places-requires c = c.requires.0.headers.most

pub returns : goal.returns
unfolding verdict_is
returns c =
    let pre = c.requires in
    places_last _ c.args.length _ pre.0 _ _ _ pre.1 (c.in_ok-check_numbers.ensures c.args.length) _ c.check_places.ensures
