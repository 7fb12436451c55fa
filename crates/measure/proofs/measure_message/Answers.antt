-- The extent of a message is that of its arguments, and one record more; its dirt is that of its address, of its type text and of its
-- arguments.
use mathlib.Core.Path.{ap, ◌∙◌}
use lib.ListN.{drop, length-drop, length-take}
use Prim.Native.Nat.{◌+◌, ◌-◌}
use native.Mathlib.Omega.{arith}
use native.Mathlib.Nat.{sub-zero}
use Rattle.std.proofs.lemmas.Result.{err_from_is_err_and}
use Rattle.wire.proofs.Parts.{tail}
use Rattle.text.proofs.Within.{found_in, found-ends}
use Rattle.arguments.proofs.Dirt.{measured-bounds}
use Rattle.heads.specs.Heads.{message_item}
use Rattle.heads.proofs.Heads.{types-tags, args_fit}
use Rattle.packet.proofs.Within.{types-lack}
use Rattle.std.specs.Prelude.{Err}
use Rattle.measure.proofs.Extents.{refused-is, message-exit, stands_after}
use Rattle.measure.proofs.measure_message.Goals as goal

pub slice_bounds-tags_in-end : goal.slice_bounds-tags_in-end
slice_bounds-tags_in-end c = let w = found_in _ _ c.in-Ok.ensures in omega (arith, w.0, w.1)

pub tags_in-tags-requires : goal.tags_in-tags-requires
tags_in-tags-requires c = rw sub-zero (found_in _ _ c.in-Ok.ensures).2

pub slice_bounds-dirty_in-start : goal.slice_bounds-dirty_in-start
slice_bounds-dirty_in-start c = let w = found_in _ _ c.in-Ok.ensures in omega (arith, w.0, w.1)

pub slice_bounds-dirty_in-end : goal.slice_bounds-dirty_in-end
slice_bounds-dirty_in-end c = let w = found_in _ _ c.in-Ok.ensures in omega (arith, w.0, w.1)

pub slice_bounds-dirty_in-count : goal.slice_bounds-dirty_in-count
slice_bounds-dirty_in-count c = let w = found_in _ _ c.in-Ok.ensures in omega (arith, w.0, w.1)

pub dirty_in-types-requires : goal.dirty_in-types-requires
dirty_in-types-requires c =
    let l = c.args.input.now in
    let n = c.in-Ok.found.length in
    let u = c.in-Ok.found.used in
    omega (arith, found-ends l _ c.in-Ok.ensures, length-take (u - (n + 1)) (drop (n + 1) l))

pub slice_bounds-measure_osc_args-start : goal.slice_bounds-measure_osc_args-start
slice_bounds-measure_osc_args-start c = let w = found_in _ _ c.in-Ok.ensures in omega (arith, w.0, w.1)

pub slice_bounds-measure_osc_args-count : goal.slice_bounds-measure_osc_args-count
slice_bounds-measure_osc_args-count c = let w = found_in _ _ c.in-Ok.ensures in omega (arith, w.0, w.1)

pub measure_osc_args-requires : goal.measure_osc_args-requires
measure_osc_args-requires c =
    let l = c.args.input.now in
    let u = c.in-Ok.found.used in
    let w = found_in _ _ c.in-Ok.ensures in
    rw (tail l u) (omega (arith, w.0, w.1, c.requires, length-drop u l))

pub overflow_add-args : goal.overflow_add-args
overflow_add-args c =
    let l = c.args.input.now in
    let n = c.in-Ok.found.length in
    let u = c.in-Ok.found.used in
    let i = found_in _ _ c.in-Ok.ensures in
    omega (
      arith,
      measured-bounds _ _ _ c.in_ok-args-in-Ok.ensures,
      args_fit l n u c.tags_in-tags.ensures,
      i.0,
      i.1,
      c.requires,
      c.dirty_in-types.ensures.0,
    )

pub overflow_add-next-in-Ok : goal.overflow_add-next-in-Ok
overflow_add-next-in-Ok c =
    let l = c.args.input.now in
    let n = c.in-Ok.found.length in
    let u = c.in-Ok.found.used in
    let i = found_in _ _ c.in-Ok.ensures in
    omega (
      arith,
      measured-bounds _ _ _ c.in_ok-args-in-Ok.ensures,
      args_fit l n u c.tags_in-tags.ensures,
      i.0,
      i.1,
      c.requires,
      c.dirty_in-types.ensures.0,
    )

pub overflow_add-dirt-in-Ok : goal.overflow_add-dirt-in-Ok
overflow_add-dirt-in-Ok c =
    let l = c.args.input.now in
    let n = c.in-Ok.found.length in
    let u = c.in-Ok.found.used in
    let i = found_in _ _ c.in-Ok.ensures in
    omega (
      arith,
      measured-bounds _ _ _ c.in_ok-args-in-Ok.ensures,
      args_fit l n u c.tags_in-tags.ensures,
      i.0,
      i.1,
      c.requires,
      c.dirty_in-types.ensures.0,
    )

pub returns-in_ok-args-in-Ok : goal.returns-in_ok-args-in-Ok
returns-in_ok-args-in-Ok c base msg w offset n =
    let a = c.args in
    let l = a.input.now in
    let u = c.in-Ok.found.used in
    let i = found_in _ _ c.in-Ok.ensures in
    c.fit.ensures ∙ message-exit base msg offset n a.room l a.pos w a.dirt c.in-Ok.ensures
    (types-tags l c.in-Ok.found.length c.tags_in-tags.ensures) (tail l u) c.dirty_in-types.ensures.1
    (c.in_ok-args-in-Ok.ensures base msg (stands_after base a.pos l msg w i.1 (tail l u)))

pub returns-in_err-args-in-Ok : goal.returns-in_err-args-in-Ok
returns-in_err-args-in-Ok c base msg w offset n =
    let a = c.args in
    let l = a.input.now in
    let u = c.in-Ok.found.used in
    let i = found_in _ _ c.in-Ok.ensures in
    let p = err_from_is_err_and c.from_residual.result c.from_residual.ensures.1 in
    rw (p.1, p.2) (message-exit base msg offset n a.room l a.pos w a.dirt c.in-Ok.ensures
    (types-tags l c.in-Ok.found.length c.tags_in-tags.ensures) (tail l u) c.dirty_in-types.ensures.1
    (c.in_err-args-in-Ok.ensures base msg (stands_after base a.pos l msg w i.1 (tail l u))))

pub returns-in-Err : goal.returns-in-Err
returns-in-Err c base msg w offset n =
    ap Err c.fault_in.ensures
    ∙ refused-is _ _ _ (types-lack base (message_item offset n) _ _ c.in-Err.ensures)
