-- `ambrothel::ambrothel_open_directory` meets its contract.
-- Assumes nothing.
use native.Mathlib.Omega.{arith}
use Rattle.layout.specs.Answers.{verdict_is}
use Rattle.writing.proofs.Puts.{same_room}
use Rattle.words.proofs.Lent.{first_short, second_short}
use Rattle.ambrothel.proofs.Rooms.{words_long, texts_long, opened_held, all_put}
use Rattle.ambrothel.proofs.ambrothel_open_directory.Goals as goal

pub returns-then-words-lt772 : goal.returns-then-words-lt772
returns-then-words-lt772 c = first_short (rw (words_long c.args.p.now) c.if-words-lt772.true)

pub returns-then-texts-lt11520 : goal.returns-then-texts-lt11520
returns-then-texts-lt11520 c =
    let b = c.args.p.now in
    second_short (rw (words_long b) c.if-words-lt772.false) (rw (texts_long b) c.if-texts-lt11520.true)

pub returns-in-Err : goal.returns-in-Err
unfolding verdict_is
returns-in-Err c = rw (← c.in-Err.ensures.judged, ← c.none.ensures) c.put_whole_directory.ensures

pub invariant_of-extents : goal.invariant_of-extents
invariant_of-extents c = record { few = (opened_held _ _ _ c.in-Ok.ensures).few }

pub put_names-named-requires : goal.put_names-named-requires
put_names-named-requires c = let h = opened_held _ _ _ c.in-Ok.ensures in (h.inside, h.few, omega (arith, c.if-texts-lt11520.false))

pub put_filenames-requires : goal.put_filenames-requires
put_filenames-requires c =
    let h = opened_held _ _ _ c.in-Ok.ensures in
    let named = c.put_names-named.ensures in
    (h.inside, h.few, omega (arith, named.next, named.narrow, same_room named, c.if-texts-lt11520.false))

pub returns : goal.returns
unfolding verdict_is
returns c =
    all_put _ _ _ (opened_held _ _ _ c.in-Ok.ensures) c.rank_sets.ensures c.if-words-lt772.false c.if-texts-lt11520.false c.put_directory_numbers.ensures
    c.put_names-named.ensures c.put_filenames.ensures
