-- `column::put_column` meets its contract.
-- Assumes nothing.
use Rattle.layout.specs.Answers.{verdict_is}
use Rattle.column.proofs.Filled.{refused_column, empty_column, own_refusal, kind_refused, count_refused, request_allowed, none-asked, by_the_set}
use Rattle.column.proofs.put_column.Goals as goal

pub returns-in_err-open_sets : goal.returns-in_err-open_sets
unfolding verdict_is
returns-in_err-open_sets c = refused_column _ _ _ (own_refusal _ _ _ _ _ _ _ _ c.in_err-open_sets.ensures.judged) _ c.from_residual.ensures

pub returns-in_err-kind : goal.returns-in_err-kind
unfolding verdict_is
returns-in_err-kind c =
    refused_column _ _ _ (kind_refused _ _ _ _ _ _ _ _ _ c.in_ok-open_sets.ensures _ c.in_err-kind.ensures.judged) _ c.from_residual-in_err-kind.ensures

pub returns-in_err-check_count : goal.returns-in_err-check_count
unfolding verdict_is
returns-in_err-check_count c =
    refused_column _ _ _ (count_refused _ _ _ _ _ _ _ _ _ c.in_ok-open_sets.ensures c.in_ok-kind.ensures.judged _ c.in_err-check_count.ensures)
    _ c.from_residual-in_err-check_count.ensures

pub returns-then-from-to : goal.returns-then-from-to
unfolding verdict_is
returns-then-from-to c =
    empty_column _ _ (none-asked _ _ _ _ _ _ _ _ _ c.in_ok-open_sets.ensures c.in_ok-kind.ensures.judged c.in_ok-check_count.ensures c.if-from-to.true) _

pub put_gathered-requires : goal.put_gathered-requires
unfolding verdict_is
put_gathered-requires c =
    let kind = c.in_ok-kind.ensures in
    request_allowed _ _ _ _ _ _ _ _ _ c.in_ok-open_sets.ensures kind.judged c.in_ok-check_count.ensures _ kind.numbered c.if-from-to.false

pub returns : goal.returns
unfolding verdict_is
returns c =
    let kind = c.in_ok-kind.ensures in
    by_the_set _ _ _ _ _ _ _ _ _ c.in_ok-open_sets.ensures kind.judged c.in_ok-check_count.ensures _ kind.numbered c.put_gathered.ensures
