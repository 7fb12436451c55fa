-- Where an array stays open, what is left from there on keeps the same arguments.
use mathlib.Core.Path.{sym}
use native.Mathlib.Omega.{arith}
use lib.ListN.{length-drop}
use lib.Seq.{length-take-le}
use Rattle.wire.proofs.Parts.{tail}
use Rattle.arguments.proofs.Kept.{cut-le, cut-never, cut_at, cut-room}
use Rattle.arguments.proofs.read_osc_args.Goals as goal

pub slice_bounds-scan_args-end : goal.slice_bounds-scan_args-end
slice_bounds-scan_args-end c = sym (length-take-le _ _ (cut-le _ c.in-Cut.ensures))

pub slice_bounds-fill_whole-count : goal.slice_bounds-fill_whole-count
slice_bounds-fill_whole-count c = cut-le _ c.in-Cut.ensures

pub slice_bounds-fill_whole-start : goal.slice_bounds-fill_whole-start
slice_bounds-fill_whole-start c = omega (arith, cut-le _ c.in-Cut.ensures)

pub slice_bounds-fill_whole-count-in-Ok : goal.slice_bounds-fill_whole-count-in-Ok
slice_bounds-fill_whole-count-in-Ok c =
    (cut_at c.args.base _ _ c.args.pos c.in-Cut.ensures c.requires.args_room.accepted c.in-Ok.ensures).within

pub slice_bounds-fill_whole-start-in-Ok : goal.slice_bounds-fill_whole-start-in-Ok
slice_bounds-fill_whole-start-in-Ok c =
    omega (arith, (cut_at c.args.base _ _ c.args.pos c.in-Cut.ensures c.requires.args_room.accepted c.in-Ok.ensures).within)

pub overflow_add-pos : goal.overflow_add-pos
overflow_add-pos c =
    let k = cut_at c.args.base _ _ c.args.pos c.in-Cut.ensures c.requires.args_room.accepted c.in-Ok.ensures in
    omega (arith, k.within, c.requires.input_bound)

pub fill_whole-requires-in-Ok-clause-input_bound : goal.fill_whole-requires-in-Ok-clause-input_bound
fill_whole-requires-in-Ok-clause-input_bound c =
    let l = c.args.input.now in
    let n = c.in-Ok.lost.used in
    let k = cut_at c.args.base _ _ c.args.pos c.in-Cut.ensures c.requires.args_room.accepted c.in-Ok.ensures in
    rw (tail l n) (omega (arith, k.within, c.requires.input_bound, length-drop n l))

pub fill_whole-requires-in-Ok-clause-args_room : goal.fill_whole-requires-in-Ok-clause-args_room
fill_whole-requires-in-Ok-clause-args_room c =
    cut-room (cut_at c.args.base _ _ c.args.pos c.in-Cut.ensures c.requires.args_room.accepted c.in-Ok.ensures) c.requires.args_room

pub fill_whole-requires-in-Ok-clause-all_closed : goal.fill_whole-requires-in-Ok-clause-all_closed
fill_whole-requires-in-Ok-clause-all_closed c =
    (cut_at c.args.base _ _ c.args.pos c.in-Cut.ensures c.requires.args_room.accepted c.in-Ok.ensures).closed

pub returns-in-Ok : goal.returns-in-Ok
returns-in-Ok c =
    let k = cut_at c.args.base _ _ c.args.pos c.in-Cut.ensures c.requires.args_room.accepted c.in-Ok.ensures in
    rw k.kept c.fill_whole-in-Ok.ensures

-- what was accepted is not refused
pub returns-in-Err : goal.returns-in-Err
returns-in-Err c =
    absurd (cut-never c.args.base _ _ c.args.pos c.in-Cut.ensures c.requires.args_room.accepted c.in-Err.ensures)
