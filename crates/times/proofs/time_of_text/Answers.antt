-- `times::time_of_text` meets its contract.
-- Assumes nothing.
use mathlib.Core.Path.{◌≡◌, sym, ◌∙◌}
use native.Mathlib.Omega.{arith}
use borrow.Author.Rules.{rules}
use Rattle.std.specs.Prelude.{Err}
use Rattle.times.specs.Times.{time_answer_is, said_by}
use Rattle.times.proofs.Said.{told, said_blank, said_unformed, said_invalid, said_time}
use Rattle.times.proofs.Reading.{kept_or, none_kept}
use Rattle.layout.specs.Answers.{reply_is}
use Rattle.times.proofs.time_of_text.Goals as goal

pub returns-in_err-moment : goal.returns-in_err-moment
unfolding reply_is said_by
returns-in_err-moment c =
    let formed = told _ (sym c.is_formed.ensures ∙ c.if-is_formed.true) in
    let refused : c.from_residual.result ≡ Err (record { number = 30; place = 0; entry = 128 }) = search rules in
    let none = none_kept _ _ _ _ c.moment_in.ensures _ (sym c.ok_or.ensures.value ∙ c.in_err-moment.was) in
    rw refused (said_invalid c.args.text.now (omega arith) formed none)

pub time_of-requires : goal.time_of-requires
time_of-requires c =
    let some = kept_or _ _ _ _ c.moment_in.ensures _ (sym c.ok_or.ensures.value ∙ c.in_ok-moment.was) in
    rw some.1 (told _ some.0)

pub returns-then-is_formed : goal.returns-then-is_formed
unfolding reply_is said_by
returns-then-is_formed c =
    let formed = told _ (sym c.is_formed.ensures ∙ c.if-is_formed.true) in
    let some = kept_or _ _ _ _ c.moment_in.ensures _ (sym c.ok_or.ensures.value ∙ c.in_ok-moment.was) in
    rw (c.time_of.ensures, some.1) (said_time c.args.text.now (omega arith) formed (told _ some.0))

pub returns-then-first_not_blank-eq27 : goal.returns-then-first_not_blank-eq27
unfolding reply_is said_by
returns-then-first_not_blank-eq27 c = said_blank c.args.text.now (omega arith) (sym c.first_not_blank.ensures ∙ c.if-first_not_blank-eq27.true)

pub returns : goal.returns
unfolding reply_is said_by
returns c =
    let unformed = sym c.is_formed.ensures ∙ c.if-is_formed.false in
    said_unformed c.args.text.now (omega arith) unformed (λ e. c.if-first_not_blank-eq27.false (c.first_not_blank.ensures ∙ e))
