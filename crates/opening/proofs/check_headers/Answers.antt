-- `opening::check_headers` meets its contract.
-- Assumes nothing.
use native.Mathlib.Omega.{arith}
use Rattle.layout.specs.Answers.{verdict_is}
use Rattle.layout.proofs.Replies.{handed_on}
use Rattle.directory.proofs.Rules.{dsds_of}
use Rattle.opening.proofs.Opened.{stays_refused, front_refuse, fronted, spares_told, sets_refuse, sets_read, sets_good}
use Rattle.opening.proofs.check_headers.Goals as goal

pub returns-in_err-front : goal.returns-in_err-front
unfolding verdict_is
returns-in_err-front c = stays_refused _ _ _ _ _ (handed_on _ _ c.from_residual.ensures) (front_refuse _ _ _ c.in_err-front.ensures.judged)

pub dsds-requires : goal.dsds-requires
dsds-requires c = omega (arith, (fronted _ _ _ c.in_ok-front.ensures).headers.room)

pub read_sets-reading-requires : goal.read_sets-reading-requires
read_sets-reading-requires c =
    let front = c.in_ok-front.ensures in
    let read = fronted _ _ _ front in
    rw c.dsds.ensures (omega (arith, (dsds_of read.headers).inside), read.headers.most, spares_told _ _ _ front, c.requires.1)

pub check_sets-requires : goal.check_sets-requires
check_sets-requires c =
    let front = c.in_ok-front.ensures in
    let read = rw c.dsds.ensures at c.read_sets-reading.ensures in
    (fronted _ _ _ front, sets_read _ _ _ front _ read.counted _ read.held)

pub returns-in_err-check_sets : goal.returns-in_err-check_sets
unfolding verdict_is
returns-in_err-check_sets c =
    stays_refused _ _ _ _ _ (handed_on _ _ c.from_residual-in_err-check_sets.ensures) (sets_refuse _ _ _ c.in_ok-front.ensures _ c.in_err-check_sets.ensures)

pub returns : goal.returns
unfolding verdict_is
returns c =
    let read = rw c.dsds.ensures at c.read_sets-reading.ensures in
    sets_good _ _ _ c.in_ok-front.ensures _ read.counted _ read.held c.in_ok-check_sets.ensures
