-- `opening::judge_opened` meets its contract.
-- Assumes nothing.
use mathlib.Core.Path.{sym}
use Rattle.layout.specs.Answers.{verdict_is}
use Rattle.layout.proofs.Replies.{told-refused}
use Rattle.opening.proofs.Opened.{headers-refused, numbers-laid, by_states, opening_laid}
use Rattle.opening.proofs.judge_opened.Goals as goal

pub judge_states-requires : goal.judge_states-requires
judge_states-requires c = let laid = opening_laid _ _ c.requires _ c.in-Ok.is in numbers-laid _ _ laid.0 laid.1

pub returns-in-Ok : goal.returns-in-Ok
returns-in-Ok c = let laid = opening_laid _ _ c.requires _ c.in-Ok.is in by_states _ _ laid.0 laid.1 _ c.judge_states.ensures

pub returns-in-Err : goal.returns-in-Err
unfolding verdict_is
returns-in-Err c = headers-refused _ _ (sym (told-refused _ _ _ c.in-Err.is c.requires.judged))
