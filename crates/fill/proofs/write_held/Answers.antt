-- A packet is its message or its bundle, after the first text; an accepted one is not refused.
use mathlib.Core.Path.{refl}
use native.Mathlib.Omega.{arith}
use Rattle.fill.proofs.Fills.{accepted-start, fills-writes, fills-some, past_room, past-accepted, past-writes}
use Rattle.fill.proofs.Fills.{past-fills, message-in, message-past, bundle-in, bundle-past}
use Rattle.fill.proofs.write_held.Goals as goal

pub find_start-requires-clause-start_accepted : goal.find_start-requires-clause-start_accepted
find_start-requires-clause-start_accepted c = accepted-start c.args.base c.args.input.now c.args.pos c.requires.packet_accepted

pub message_item-item-requires : goal.message_item-item-requires
message_item-item-requires c =
    let m = message-in c.in-Message.ensures c.requires.input_bound in
    (omega (arith, m), omega (arith, m))

pub slice_bounds-write_held_message-count : goal.slice_bounds-write_held_message-count
slice_bounds-write_held_message-count c = omega (arith, message-in c.in-Message.ensures c.requires.input_bound)

pub slice_bounds-write_held_message-start : goal.slice_bounds-write_held_message-start
slice_bounds-write_held_message-start c = omega (arith, message-in c.in-Message.ensures c.requires.input_bound)

pub overflow_add-pos : goal.overflow_add-pos
overflow_add-pos c = omega (arith, message-in c.in-Message.ensures c.requires.input_bound)

pub write_held_message-requires-clause-input_bound : goal.write_held_message-requires-clause-input_bound
write_held_message-requires-clause-input_bound c = omega (arith, message-in c.in-Message.ensures c.requires.input_bound)

pub write_held_message-requires-clause-table_room : goal.write_held_message-requires-clause-table_room
write_held_message-requires-clause-table_room c =
    past_room (message-past (message-in c.in-Message.ensures c.requires.input_bound) c.message_item-item.ensures) c.requires.table_room

pub write_held_message-requires-clause-packet_accepted : goal.write_held_message-requires-clause-packet_accepted
write_held_message-requires-clause-packet_accepted c =
    past-accepted (message-past (message-in c.in-Message.ensures c.requires.input_bound) c.message_item-item.ensures)
    c.requires.packet_accepted

pub slice_bounds-decode_bundle-count : goal.slice_bounds-decode_bundle-count
slice_bounds-decode_bundle-count c = omega (arith, bundle-in c.in-Bundle.ensures c.requires.input_bound)

pub slice_bounds-decode_bundle-start : goal.slice_bounds-decode_bundle-start
slice_bounds-decode_bundle-start c = omega (arith, bundle-in c.in-Bundle.ensures c.requires.input_bound)

pub overflow_add-pos-in-Bundle : goal.overflow_add-pos-in-Bundle
overflow_add-pos-in-Bundle c = omega (arith, bundle-in c.in-Bundle.ensures c.requires.input_bound)

pub decode_bundle-requires-clause-input_bound : goal.decode_bundle-requires-clause-input_bound
decode_bundle-requires-clause-input_bound c = omega (arith, bundle-in c.in-Bundle.ensures c.requires.input_bound)

pub decode_bundle-requires-clause-table_room : goal.decode_bundle-requires-clause-table_room
decode_bundle-requires-clause-table_room c =
    past_room (bundle-past (bundle-in c.in-Bundle.ensures c.requires.input_bound)) c.requires.table_room

pub returns-in-Message : goal.returns-in-Message
returns-in-Message c =
    past-writes (message-past (message-in c.in-Message.ensures c.requires.input_bound) c.message_item-item.ensures)
    c.write_held_message.ensures

pub returns-in-Some : goal.returns-in-Some
returns-in-Some c =
    fills-writes (past-fills (bundle-past (bundle-in c.in-Bundle.ensures c.requires.input_bound)) c.in-Some.ensures) refl

pub returns-in-None : goal.returns-in-None
returns-in-None c =
    absurd (fills-some c.requires.packet_accepted (past-fills (bundle-past
    (bundle-in c.in-Bundle.ensures c.requires.input_bound)) c.in-None.ensures) refl)
