-- In each turn the record of a leaf or of an opened array is written, or the end of the array that closes.
use mathlib.Core.Path.{sym}
use native.Mathlib.Omega.{arith}
use Rattle.argument.proofs.Within.{given-within}
use Rattle.arguments.proofs.Filling.{filling-start, filling-opens, filling-leaf, filling-closes, filling-given, filling-done}
use Rattle.arguments.proofs.Filling.{room-opens, room-leaf, room-closes}
use Rattle.arguments.proofs.records.fill_whole.Goals as goal

pub loop-left-init : goal.loop-left-init
loop-left-init c = let r = c.requires in filling-start _ _ _ _ _ _ r.input_bound r.args_room r.all_closed

pub put_at-requires : goal.put_at-requires
put_at-requires c = omega (arith, room-opens c.loop-left.invariant c.loop-left-test.true c.in-Opens.ensures)

pub loop-left-preserved-in-Opens : goal.loop-left-preserved-in-Opens
loop-left-preserved-in-Opens c = filling-opens c.loop-left.invariant c.loop-left-test.true c.in-Opens.ensures c.put_at.ensures

pub overflow_sub-top : goal.overflow_sub-top
overflow_sub-top c = omega (arith, room-closes c.loop-left.invariant c.loop-left-test.true c.in-Closes.ensures)

pub swap_end-top-requires : goal.swap_end-top-requires
swap_end-top-requires c = omega (arith, room-closes c.loop-left.invariant c.loop-left-test.true c.in-Closes.ensures)

pub loop-left-preserved-in-Closes : goal.loop-left-preserved-in-Closes
loop-left-preserved-in-Closes c =
    let e = c.swap_end-top.ensures in
    filling-closes c.loop-left.invariant c.loop-left-test.true c.in-Closes.ensures e.value e.wrote

pub read_osc_arg-given-requires-clause-arg_read : goal.read_osc_arg-given-requires-clause-arg_read
read_osc_arg-given-requires-clause-arg_read c = filling-given c.loop-left.invariant c.loop-left-test.true c.in-Leaf.ensures

pub put_at-requires-in-Leaf : goal.put_at-requires-in-Leaf
put_at-requires-in-Leaf c = omega (arith, room-leaf c.loop-left.invariant c.loop-left-test.true c.in-Leaf.ensures)

pub slice_bounds-rest-count : goal.slice_bounds-rest-count
slice_bounds-rest-count c = given-within _ _ _ _ _ (sym c.read_osc_arg-given.ensures)

pub slice_bounds-rest-start : goal.slice_bounds-rest-start
slice_bounds-rest-start c = omega (arith, given-within _ _ _ _ _ (sym c.read_osc_arg-given.ensures))

pub overflow_add-at : goal.overflow_add-at
overflow_add-at c =
    let k = c.loop-left.invariant in
    omega (arith, given-within _ _ _ _ _ (sym c.read_osc_arg-given.ensures), k.ends, k.low)

pub loop-left-preserved : goal.loop-left-preserved
loop-left-preserved c =
    filling-leaf c.loop-left.invariant c.loop-left-test.true c.in-Leaf.ensures (sym c.read_osc_arg-given.ensures)
    c.put_at-in-Leaf.ensures

pub returns : goal.returns
returns c = filling-done c.loop-left.invariant c.loop-left-test.false
