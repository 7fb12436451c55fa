-- While fewer records are written than were counted, the next frame is given, and is written.
use mathlib.Core.Path.{refl}
use native.Mathlib.Omega.{arith}
use borrow.Author.Rules.{rules}
use Rattle.decoder.proofs.FrameFills.{cuts-start}
use Rattle.decoder.proofs.FrameTurns.{cuts-end, cut_fits, cut-turn, cut-not-nothing, cut_written}
use Rattle.decoder.proofs.frames.decode_cuts.Goals as goal

pub loop-written-init : goal.loop-written-init
loop-written-init c = (search rules, cuts-start c.args.depth c.args.msg.now c.args.table.now c.requires.table_room)

pub decode_cut-requires-clause-table_room : goal.decode_cut-requires-clause-table_room
decode_cut-requires-clause-table_room c =
    let a = c.args in
    let l = c.loop-written in
    cut_fits a.depth a.msg.now a.table.now l.table l.from l.written l.invariant.1 c.requires.msg_value c.loop-written-test.true

pub overflow_add-written : goal.overflow_add-written
overflow_add-written c =
    let a = c.args in
    let l = c.loop-written in
    omega (
      arith,
      cut_written (cut-turn a.depth a.msg.now a.table.now l.table l.from l.written l.invariant.1 c.requires.msg_value
          c.loop-written-test.true
          c.in-Some.ensures) refl,
    )

pub overflow_add-from : goal.overflow_add-from
overflow_add-from c =
    let a = c.args in
    let l = c.loop-written in
    omega (
      arith,
      cut_written (cut-turn a.depth a.msg.now a.table.now l.table l.from l.written l.invariant.1 c.requires.msg_value
          c.loop-written-test.true
          c.in-Some.ensures) refl,
    )

pub loop-written-smaller : goal.loop-written-smaller
loop-written-smaller c =
    let a = c.args in
    let l = c.loop-written in
    omega (
      arith,
      cut_written (cut-turn a.depth a.msg.now a.table.now l.table l.from l.written l.invariant.1 c.requires.msg_value
          c.loop-written-test.true
          c.in-Some.ensures) refl,
    )

pub loop-written-preserved : goal.loop-written-preserved
loop-written-preserved c =
    let a = c.args in
    let l = c.loop-written in
    let w = cut_written (cut-turn a.depth a.msg.now a.table.now l.table l.from l.written l.invariant.1 c.requires.msg_value
    c.loop-written-test.true
    c.in-Some.ensures) refl in
    (w.within, w.listing)

pub returns-in-None : goal.returns-in-None
returns-in-None c =
    let a = c.args in
    let l = c.loop-written in
    absurd (cut-not-nothing a.depth a.msg.now a.table.now l.table l.from l.written l.invariant.1 c.requires.msg_value
    c.loop-written-test.true
    c.in-None.ensures refl)

pub returns : goal.returns
returns c = cuts-end c.args.depth c.args.msg.now c.loop-written.invariant.1 c.requires.msg_value (search rules)
