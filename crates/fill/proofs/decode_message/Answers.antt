-- A message is its arguments, after the type text; once they are measured, it is known.
use native.Mathlib.Nat.{sub-zero}
use native.Mathlib.Omega.{arith}
use Rattle.text.proofs.Within.{found_in}
use Rattle.arguments.specs.CodeReadings.{no_dirt}
use Rattle.packet.proofs.Within.{types-lack}
use Rattle.fill.proofs.Fills.{was-ok, was-err, fills-none, past_room}
use Rattle.fill.proofs.Messages.{types-read, args-past, args-refused, kept-fits, kept-known, message-fills}
use Rattle.fill.proofs.decode_message.Goals as goal

pub slice_bounds-tags_in-end : goal.slice_bounds-tags_in-end
slice_bounds-tags_in-end c = omega (arith, types-read c.in_ok-types.ensures.value c.read_osc_string.ensures c.requires.input_bound)

pub slice_bounds-rest-count : goal.slice_bounds-rest-count
slice_bounds-rest-count c = omega (arith, types-read c.in_ok-types.ensures.value c.read_osc_string.ensures c.requires.input_bound)

pub slice_bounds-rest-start : goal.slice_bounds-rest-start
slice_bounds-rest-start c = omega (arith, types-read c.in_ok-types.ensures.value c.read_osc_string.ensures c.requires.input_bound)

pub overflow_add-pos : goal.overflow_add-pos
overflow_add-pos c = omega (arith, types-read c.in_ok-types.ensures.value c.read_osc_string.ensures c.requires.input_bound)

pub count_osc_args-requires : goal.count_osc_args-requires
count_osc_args-requires c = omega (arith, types-read c.in_ok-types.ensures.value c.read_osc_string.ensures c.requires.input_bound)

pub overflow_add-pos-2 : goal.overflow_add-pos-2
overflow_add-pos-2 c = omega (arith, types-read c.in_ok-types.ensures.value c.read_osc_string.ensures c.requires.input_bound)

pub put_message-requires-clause-input_bound : goal.put_message-requires-clause-input_bound
put_message-requires-clause-input_bound c =
    omega (arith, types-read c.in_ok-types.ensures.value c.read_osc_string.ensures c.requires.input_bound)

pub tags_in-tags-requires : goal.tags_in-tags-requires
tags_in-tags-requires c = rw sub-zero (found_in _ _ (was-ok c.in_ok-types.ensures.value c.read_osc_string.ensures)).2

pub overflow_add-count : goal.overflow_add-count
overflow_add-count c =
    let t = types-read c.in_ok-types.ensures.value c.read_osc_string.ensures c.requires.input_bound in
    let k = was-ok c.in_ok-args.ensures.value (c.count_osc_args.ensures c.args.base) in
    omega (arith, t, kept-fits c.args.item t c.tags_in-tags.ensures no_dirt k)

pub overflow_add-result : goal.overflow_add-result
overflow_add-result c =
    let t = types-read c.in_ok-types.ensures.value c.read_osc_string.ensures c.requires.input_bound in
    let k = was-ok c.in_ok-args.ensures.value (c.count_osc_args.ensures c.args.base) in
    omega (arith, t, kept-fits c.args.item t c.tags_in-tags.ensures no_dirt k)

pub overflow_add-result-2 : goal.overflow_add-result-2
overflow_add-result-2 c =
    let t = types-read c.in_ok-types.ensures.value c.read_osc_string.ensures c.requires.input_bound in
    let k = was-ok c.in_ok-args.ensures.value (c.count_osc_args.ensures c.args.base) in
    omega (arith, t, kept-fits c.args.item t c.tags_in-tags.ensures no_dirt k)

pub put_message-requires-clause-table_room : goal.put_message-requires-clause-table_room
put_message-requires-clause-table_room c =
    let t = types-read c.in_ok-types.ensures.value c.read_osc_string.ensures c.requires.input_bound in
    past_room (args-past c.args.item t c.tags_in-tags.ensures) c.requires.table_room

pub put_message-requires-clause-known : goal.put_message-requires-clause-known
put_message-requires-clause-known c =
    let t = types-read c.in_ok-types.ensures.value c.read_osc_string.ensures c.requires.input_bound in
    kept-known c.args.item t c.tags_in-tags.ensures no_dirt
    (was-ok c.in_ok-args.ensures.value (c.count_osc_args.ensures c.args.base))

pub returns : goal.returns
returns c =
    message-fills c.args.item (types-read c.in_ok-types.ensures.value c.read_osc_string.ensures c.requires.input_bound)
    c.tags_in-tags.ensures no_dirt (was-ok c.in_ok-args.ensures.value (c.count_osc_args.ensures c.args.base)) _ _ c.put_message.ensures

pub returns-in_err-args : goal.returns-in_err-args
returns-in_err-args c =
    let p = was-err c.in_err-args.ensures.value (c.count_osc_args.ensures c.args.base) in
    rw c.from_residual-in_err-args.ensures
    (fills-none (args-refused c.args.item
    (types-read c.in_ok-types.ensures.value c.read_osc_string.ensures c.requires.input_bound)
    c.tags_in-tags.ensures no_dirt p.1))

pub returns-in_err-types : goal.returns-in_err-types
returns-in_err-types c =
    let p = was-err c.in_err-types.ensures.value c.read_osc_string.ensures in
    rw c.from_residual.ensures (fills-none (types-lack _ _ _ _ p.1))
