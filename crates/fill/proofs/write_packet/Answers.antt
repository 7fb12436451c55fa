-- A packet is a message or a bundle, after its first text.
use native.Mathlib.Omega.{arith}
use Rattle.fill.proofs.Fills.{known-accepted, accepted-start, past_room, past-known, past-stored}
use Rattle.fill.proofs.Fills.{message-in, message-past, bundle-in, bundle-past}
use Rattle.fill.proofs.write_packet.Goals as goal

pub find_start-requires-clause-start_accepted : goal.find_start-requires-clause-start_accepted
find_start-requires-clause-start_accepted c = accepted-start c.args.base c.args.input.now c.args.pos (known-accepted c.requires.known)

pub message_item-item-requires : goal.message_item-item-requires
message_item-item-requires c =
    let m = message-in c.in-Message.ensures c.requires.input_bound in
    (omega (arith, m), omega (arith, m))

pub slice_bounds-write_message-count : goal.slice_bounds-write_message-count
slice_bounds-write_message-count c = omega (arith, message-in c.in-Message.ensures c.requires.input_bound)

pub slice_bounds-write_message-start : goal.slice_bounds-write_message-start
slice_bounds-write_message-start c = omega (arith, message-in c.in-Message.ensures c.requires.input_bound)

pub overflow_add-pos : goal.overflow_add-pos
overflow_add-pos c = omega (arith, message-in c.in-Message.ensures c.requires.input_bound)

pub write_message-requires-clause-input_bound : goal.write_message-requires-clause-input_bound
write_message-requires-clause-input_bound c = omega (arith, message-in c.in-Message.ensures c.requires.input_bound)

pub write_message-requires-clause-table_room : goal.write_message-requires-clause-table_room
write_message-requires-clause-table_room c =
    past_room (message-past (message-in c.in-Message.ensures c.requires.input_bound) c.message_item-item.ensures) c.requires.table_room

pub write_message-requires-clause-known : goal.write_message-requires-clause-known
write_message-requires-clause-known c =
    past-known (message-past (message-in c.in-Message.ensures c.requires.input_bound) c.message_item-item.ensures) c.requires.known

pub slice_bounds-write_bundle-count : goal.slice_bounds-write_bundle-count
slice_bounds-write_bundle-count c = omega (arith, bundle-in c.in-Bundle.ensures c.requires.input_bound)

pub slice_bounds-write_bundle-start : goal.slice_bounds-write_bundle-start
slice_bounds-write_bundle-start c = omega (arith, bundle-in c.in-Bundle.ensures c.requires.input_bound)

pub overflow_add-pos-in-Bundle : goal.overflow_add-pos-in-Bundle
overflow_add-pos-in-Bundle c = omega (arith, bundle-in c.in-Bundle.ensures c.requires.input_bound)

pub write_bundle-requires-clause-input_bound : goal.write_bundle-requires-clause-input_bound
write_bundle-requires-clause-input_bound c = omega (arith, bundle-in c.in-Bundle.ensures c.requires.input_bound)

pub write_bundle-requires-clause-table_room : goal.write_bundle-requires-clause-table_room
write_bundle-requires-clause-table_room c =
    past_room (bundle-past (bundle-in c.in-Bundle.ensures c.requires.input_bound)) c.requires.table_room

pub write_bundle-requires-clause-known : goal.write_bundle-requires-clause-known
write_bundle-requires-clause-known c = past-known (bundle-past (bundle-in c.in-Bundle.ensures c.requires.input_bound)) c.requires.known

pub returns-in-Message : goal.returns-in-Message
returns-in-Message c =
    past-stored (message-past (message-in c.in-Message.ensures c.requires.input_bound) c.message_item-item.ensures) _ _
    c.write_message.ensures

pub returns-in-Bundle : goal.returns-in-Bundle
returns-in-Bundle c = past-stored (bundle-past (bundle-in c.in-Bundle.ensures c.requires.input_bound)) _ _ c.write_bundle.ensures
