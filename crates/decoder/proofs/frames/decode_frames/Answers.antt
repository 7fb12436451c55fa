-- In a turn a frame is written, and what is left is one frame shorter; at one that waits all is written.
use mathlib.Core.Path.{refl}
use native.Mathlib.Omega.{arith}
use borrow.Author.Rules.{rules}
use Rattle.decoder.proofs.FrameFills.{listing_start, listing-end, none_left}
use Rattle.decoder.proofs.FrameTurns.{frame-fits, rosc_turn, rosc-written, rosc-waits}
use Rattle.decoder.proofs.frames.decode_frames.Goals as goal

pub loop-at-init : goal.loop-at-init
loop-at-init c = (search rules, listing_start c.args.msg.now c.args.table.now c.requires.accepted c.requires.table_room)

pub decode_frame-requires-clause-table_room : goal.decode_frame-requires-clause-table_room
decode_frame-requires-clause-table_room c = frame-fits c.args.msg.now c.loop-at.invariant.1 c.loop-at-test.true

pub overflow_add-count : goal.overflow_add-count
overflow_add-count c = omega (arith, rosc-written (rosc_turn c.loop-at.invariant.1 c.loop-at-test.true c.in-Some.ensures) refl)

pub overflow_add-at : goal.overflow_add-at
overflow_add-at c = omega (arith, rosc-written (rosc_turn c.loop-at.invariant.1 c.loop-at-test.true c.in-Some.ensures) refl)

pub loop-at-smaller : goal.loop-at-smaller
loop-at-smaller c = omega (arith, rosc-written (rosc_turn c.loop-at.invariant.1 c.loop-at-test.true c.in-Some.ensures) refl)

pub loop-at-preserved : goal.loop-at-preserved
loop-at-preserved c =
    let w = rosc-written (rosc_turn c.loop-at.invariant.1 c.loop-at-test.true c.in-Some.ensures) refl in
    (w.within, w.listing)

pub returns-in-None : goal.returns-in-None
returns-in-None c = rosc-waits (rosc_turn c.loop-at.invariant.1 c.loop-at-test.true c.in-None.ensures) refl

pub returns : goal.returns
returns c =
    let a = c.args in
    let l = c.loop-at in
    listing-end a.msg.now a.table.now l.table l.at l.count l.invariant.1 (none_left a.msg.now l.at (search rules))
