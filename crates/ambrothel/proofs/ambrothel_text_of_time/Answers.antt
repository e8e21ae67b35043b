-- `ambrothel::ambrothel_text_of_time` meets its contract.
-- Assumes nothing.
use Rattle.layout.specs.Answers.{verdict_is}
use Rattle.times.specs.Times.{text_bytes}
use Rattle.times.proofs.Answers.{time-kept}
use Rattle.time_words.proofs.Answers.{text-rooms}
use Rattle.ambrothel.proofs.ambrothel_text_of_time.Goals as goal

pub returns-in-Ok : goal.returns-in-Ok
unfolding verdict_is text_bytes
returns-in-Ok c = text-rooms _ _ (time-kept c.args.days c.args.seconds c.args.microseconds c.ranges.days) c.in-Ok.ensures c.put_whole_text.ensures

pub returns-in-Err : goal.returns-in-Err
unfolding verdict_is text_bytes
returns-in-Err c = text-rooms _ _ (time-kept c.args.days c.args.seconds c.args.microseconds c.ranges.days) c.in-Err.ensures c.put_whole_text-in-Err.ensures
