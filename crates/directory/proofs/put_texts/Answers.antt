-- `directory::put_texts` meets its contract: the texts of the first `i` DSDs are put.
-- Assumes nothing.
use Prim.Native.Nat.{◌+◌, ◌*◌, ◌≤◌}
use mathlib.Core.Path.{◌≡◌, ◌∙◌}
use native.Mathlib.Omega.{arith}
use lib.ListN.{length}
use Rattle.writing.proofs.Puts.{same_room}
use Rattle.directory.specs.Texts.{text_at, texts_from}
use Rattle.directory.proofs.Texts.{none_put, one_put, next-within, next_fits, all_put}
use Rattle.directory.proofs.put_texts.Goals as goal

pub loop-i-init : goal.loop-i-init
loop-i-init c =
    let args = c.args in
    (none_put (text_at args.p.now args.from args.place args.width) args.width args.room.now args.at)

pub put_lent-next-requires : goal.put_lent-next-requires
put_lent-next-requires c =
    let l = c.loop-i in
    let pre = c.requires in
    let inside : c.args.from + 280 * l.i + c.args.place + c.args.width ≤ length c.args.p.now = omega (arith, pre.inside, pre.within) in
    (pre.narrow, inside, next_fits _ c.args.width l.i (omega (arith, pre.most)) pre.wide l.invariant)

pub loop-i-preserved : goal.loop-i-preserved
unfolding text_at
loop-i-preserved c =
    let l = c.loop-i in
    let args = c.args in
    (one_put (text_at args.p.now args.from args.place args.width) args.width l.i l.invariant c.put_lent-next.ensures)

pub overflow_sub-end : goal.overflow_sub-end
overflow_sub-end c =
    let l = c.loop-i in
    next-within _ c.args.width l.i (omega (arith, c.requires.most)) l.invariant

pub put_zeros-requires : goal.put_zeros-requires
put_zeros-requires c =
    let pre = c.requires in
    omega (arith, overflow_sub-end c, pre.wide, same_room c.loop-i.invariant)

pub shape_of-room : goal.shape_of-room
shape_of-room c = same_room c.put_zeros.ensures ∙ same_room c.loop-i.invariant

pub returns : goal.returns
unfolding texts_from
returns c =
    let l = c.loop-i in
    let args = c.args in
    let all : l.i ≡ args.n = omega arith in
    all_put (text_at args.p.now args.from args.place args.width) args.width args.n c.requires.most (rw all at l.invariant) c.put_zeros.ensures
