-- While fewer records than the bundle has are written, the next element is accepted, and what is left is one element shorter.
use mathlib.Core.Path.{refl}
use native.Mathlib.Omega.{arith}
use Rattle.fill.proofs.Contents.{known-long, filling-start, next_fits, next-accepted}
use Rattle.fill.proofs.Contents.{turn-fits, turn-falls, filling-on, filling-all}
use Rattle.fill.proofs.write_bundle.Goals as goal

pub slice_bounds-rest-count : goal.slice_bounds-rest-count
slice_bounds-rest-count c = omega (arith, known-long c.args.base c.args.start c.args.input.now c.args.pos c.requires.known)

pub slice_bounds-rest-start : goal.slice_bounds-rest-start
slice_bounds-rest-start c = omega (arith, known-long c.args.base c.args.start c.args.input.now c.args.pos c.requires.known)

pub loop-written-init : goal.loop-written-init
loop-written-init c =
    filling-start (known-long c.args.base c.args.start c.args.input.now c.args.pos c.requires.known)
    c.requires.input_bound c.requires.table_room

pub write_element-element-requires-clause-table_room : goal.write_element-element-requires-clause-table_room
write_element-element-requires-clause-table_room c = next_fits c.loop-written.invariant

pub write_element-element-requires-clause-packet_accepted : goal.write_element-element-requires-clause-packet_accepted
write_element-element-requires-clause-packet_accepted c = next-accepted c.loop-written.invariant c.requires.known c.loop-written-test.true

pub overflow_add-written : goal.overflow_add-written
overflow_add-written c = omega (arith, turn-fits c.loop-written.invariant c.write_element-element.ensures refl)

pub slice_bounds-rest-count-in-loop-written : goal.slice_bounds-rest-count-in-loop-written
slice_bounds-rest-count-in-loop-written c = omega (arith, turn-fits c.loop-written.invariant c.write_element-element.ensures refl)

pub slice_bounds-rest-start-in-loop-written : goal.slice_bounds-rest-start-in-loop-written
slice_bounds-rest-start-in-loop-written c = omega (arith, turn-fits c.loop-written.invariant c.write_element-element.ensures refl)

pub loop-written-smaller : goal.loop-written-smaller
loop-written-smaller c = turn-falls c.loop-written.invariant c.write_element-element.ensures refl

pub loop-written-preserved : goal.loop-written-preserved
loop-written-preserved c = filling-on c.loop-written.invariant c.write_element-element.ensures refl

pub returns : goal.returns
returns c = filling-all c.loop-written.invariant c.requires.known c.loop-written-test.false c.bundle_item.ensures c.put_record.ensures
