-- Its tags tell how many records it has, so that it is known.
use mathlib.Core.Path.{sym}
use native.Mathlib.Nat.{sub-zero}
use native.Mathlib.Omega.{arith}
use Rattle.text.proofs.Within.{found_in}
use Rattle.fill.proofs.Fills.{past_room, past-writes}
use Rattle.fill.proofs.Messages.{accepted-types, types-in, args-past, counted-known}
use Rattle.fill.proofs.write_held_message.Goals as goal

pub find_osc_string-types-requires-clause-text_found : goal.find_osc_string-types-requires-clause-text_found
find_osc_string-types-requires-clause-text_found c =
    let a = c.args in
    accepted-types a.base a.item a.input.now a.pos c.requires.packet_accepted

pub slice_bounds-tags_in-end : goal.slice_bounds-tags_in-end
slice_bounds-tags_in-end c = omega (arith, types-in (sym c.find_osc_string-types.ensures) c.requires.input_bound)

pub slice_bounds-rest-count : goal.slice_bounds-rest-count
slice_bounds-rest-count c = omega (arith, types-in (sym c.find_osc_string-types.ensures) c.requires.input_bound)

pub slice_bounds-rest-start : goal.slice_bounds-rest-start
slice_bounds-rest-start c = omega (arith, types-in (sym c.find_osc_string-types.ensures) c.requires.input_bound)

pub overflow_add-pos : goal.overflow_add-pos
overflow_add-pos c = omega (arith, types-in (sym c.find_osc_string-types.ensures) c.requires.input_bound)

pub put_message-requires-clause-input_bound : goal.put_message-requires-clause-input_bound
put_message-requires-clause-input_bound c = omega (arith, types-in (sym c.find_osc_string-types.ensures) c.requires.input_bound)

pub tags_in-tags-requires : goal.tags_in-tags-requires
tags_in-tags-requires c = rw sub-zero (found_in _ _ (sym c.find_osc_string-types.ensures)).2

pub put_message-requires-clause-table_room : goal.put_message-requires-clause-table_room
put_message-requires-clause-table_room c =
    past_room (args-past c.args.item (types-in (sym c.find_osc_string-types.ensures) c.requires.input_bound) c.tags_in-tags.ensures)
    c.requires.table_room

pub overflow_add-count : goal.overflow_add-count
overflow_add-count c =
    let t = types-in (sym c.find_osc_string-types.ensures) c.requires.input_bound in
    let k = counted-known c.args.item t c.tags_in-tags.ensures c.requires.packet_accepted
    (c.count_accepted-count.ensures c.args.base _ _) in
    omega (arith, past_room (args-past c.args.item t c.tags_in-tags.ensures) c.requires.table_room, k)

pub put_message-requires-clause-known : goal.put_message-requires-clause-known
put_message-requires-clause-known c =
    counted-known c.args.item (types-in (sym c.find_osc_string-types.ensures) c.requires.input_bound) c.tags_in-tags.ensures
    c.requires.packet_accepted (c.count_accepted-count.ensures c.args.base _ _)

pub returns : goal.returns
returns c =
    let t = types-in (sym c.find_osc_string-types.ensures) c.requires.input_bound in
    past-writes (args-past c.args.item t c.tags_in-tags.ensures)
    (record {
      known = counted-known c.args.item t c.tags_in-tags.ensures c.requires.packet_accepted
          (c.count_accepted-count.ensures c.args.base _ _);
      table = c.put_message.ensures;
    })
