-- A bundle's table, completed by what is left, is the table at the end; a packet is its message or its bundle; an element's packet lies in
-- its bytes.
use mathlib.Core.Path.{refl}
use native.Mathlib.Omega.{arith}
use Rattle.packet.proofs.Knot.{starts-refused, element-runs-out}
use Rattle.packet.proofs.Bundles.{bundle-short}
use Rattle.fill.proofs.Fills.{fills-none, past_room, past-fills, was-err, message-read, message-past, bundle-read, bundle-past}
use Rattle.fill.proofs.Elements.{element-in, held-room, element-fills}
use Rattle.fill.proofs.Contents.{filling-start, filling-fits, rest-is-shorter, next_fits, turn-fits, turn-falls, filling-on, filling-done}
use Rattle.fill.proofs.+decode_bundle_decode_packet_read_bundle_element.Goals as goal

pub decode_bundle-returns-then-input-lt8 : goal.decode_bundle-returns-then-input-lt8
decode_bundle-returns-then-input-lt8 t c = fills-none (bundle-short _ _ _ _ c.if-input-lt8.true)

pub decode_bundle-loop-element-init : goal.decode_bundle-loop-element-init
decode_bundle-loop-element-init t c = filling-start c.if-input-lt8.false c.requires.input_bound c.requires.table_room

pub decode_bundle-overflow_mul-count : goal.decode_bundle-overflow_mul-count
decode_bundle-overflow_mul-count t c = omega (arith, filling-fits c.loop-element.invariant)

pub decode_bundle-slice_bounds-read_bundle_element-count : goal.decode_bundle-slice_bounds-read_bundle_element-count
decode_bundle-slice_bounds-read_bundle_element-count t c = omega (arith, filling-fits c.loop-element.invariant)

pub decode_bundle-slice_bounds-read_bundle_element-start : goal.decode_bundle-slice_bounds-read_bundle_element-start
decode_bundle-slice_bounds-read_bundle_element-start t c = omega (arith, filling-fits c.loop-element.invariant)

pub decode_bundle-overflow_add-index : goal.decode_bundle-overflow_add-index
decode_bundle-overflow_add-index t c = omega (arith, filling-fits c.loop-element.invariant)

pub decode_bundle-overflow_add-end : goal.decode_bundle-overflow_add-end
decode_bundle-overflow_add-end t c = omega (arith, filling-fits c.loop-element.invariant)

pub decode_bundle-overflow_cast-end : goal.decode_bundle-overflow_cast-end
decode_bundle-overflow_cast-end t c = omega (arith, filling-fits c.loop-element.invariant)

pub decode_bundle-read_bundle_element-requires : goal.decode_bundle-read_bundle_element-requires
decode_bundle-read_bundle_element-requires t c =
    let r = rest-is-shorter c.loop-element.invariant in
    (omega (arith, r, c.decreases), (r.0, next_fits c.loop-element.invariant))

pub decode_bundle-overflow_add-count : goal.decode_bundle-overflow_add-count
decode_bundle-overflow_add-count t c = omega (arith, turn-fits c.loop-element.invariant c.in-Some.ensures refl)

pub decode_bundle-slice_bounds-rest-count-in-Some : goal.decode_bundle-slice_bounds-rest-count-in-Some
decode_bundle-slice_bounds-rest-count-in-Some t c = omega (arith, turn-fits c.loop-element.invariant c.in-Some.ensures refl)

pub decode_bundle-slice_bounds-rest-start-in-Some : goal.decode_bundle-slice_bounds-rest-start-in-Some
decode_bundle-slice_bounds-rest-start-in-Some t c = omega (arith, turn-fits c.loop-element.invariant c.in-Some.ensures refl)

pub decode_bundle-loop-element-smaller : goal.decode_bundle-loop-element-smaller
decode_bundle-loop-element-smaller t c = turn-falls c.loop-element.invariant c.in-Some.ensures refl

pub decode_bundle-loop-element-preserved : goal.decode_bundle-loop-element-preserved
decode_bundle-loop-element-preserved t c = filling-on c.loop-element.invariant c.in-Some.ensures refl

pub decode_bundle-put_record-requires : goal.decode_bundle-put_record-requires
decode_bundle-put_record-requires t c = omega (arith, filling-fits c.loop-element.invariant, c.loop-element.invariant.some)

pub decode_bundle-returns : goal.decode_bundle-returns
decode_bundle-returns t c =
    filling-done c.loop-element.invariant c.in_default.ensures refl c.bundle_item.ensures c.put_record.ensures

pub decode_packet-message_item-item-requires : goal.decode_packet-message_item-item-requires
decode_packet-message_item-item-requires t c =
    let m = message-read c.in_ok-length.ensures.value c.read_start.ensures c.in-Message.is c.requires.input_bound in
    (omega (arith, m), omega (arith, m))

pub decode_packet-slice_bounds-decode_message-count : goal.decode_packet-slice_bounds-decode_message-count
decode_packet-slice_bounds-decode_message-count t c =
    omega (arith, message-read c.in_ok-length.ensures.value c.read_start.ensures c.in-Message.is c.requires.input_bound)

pub decode_packet-slice_bounds-decode_message-start : goal.decode_packet-slice_bounds-decode_message-start
decode_packet-slice_bounds-decode_message-start t c =
    omega (arith, message-read c.in_ok-length.ensures.value c.read_start.ensures c.in-Message.is c.requires.input_bound)

pub decode_packet-overflow_add-pos : goal.decode_packet-overflow_add-pos
decode_packet-overflow_add-pos t c =
    omega (arith, message-read c.in_ok-length.ensures.value c.read_start.ensures c.in-Message.is c.requires.input_bound)

pub decode_packet-decode_message-requires-clause-input_bound : goal.decode_packet-decode_message-requires-clause-input_bound
decode_packet-decode_message-requires-clause-input_bound t c =
    omega (arith, message-read c.in_ok-length.ensures.value c.read_start.ensures c.in-Message.is c.requires.input_bound)

pub decode_packet-decode_message-requires-clause-table_room : goal.decode_packet-decode_message-requires-clause-table_room
decode_packet-decode_message-requires-clause-table_room t c =
    let m = message-read c.in_ok-length.ensures.value c.read_start.ensures c.in-Message.is c.requires.input_bound in
    past_room (message-past m c.message_item-item.ensures)
    c.requires.table_room

pub decode_packet-slice_bounds-decode_bundle-count : goal.decode_packet-slice_bounds-decode_bundle-count
decode_packet-slice_bounds-decode_bundle-count t c =
    omega (arith, bundle-read c.in_ok-length.ensures.value c.read_start.ensures c.in-Bundle.is c.requires.input_bound)

pub decode_packet-slice_bounds-decode_bundle-start : goal.decode_packet-slice_bounds-decode_bundle-start
decode_packet-slice_bounds-decode_bundle-start t c =
    omega (arith, bundle-read c.in_ok-length.ensures.value c.read_start.ensures c.in-Bundle.is c.requires.input_bound)

pub decode_packet-overflow_add-pos-in-Bundle : goal.decode_packet-overflow_add-pos-in-Bundle
decode_packet-overflow_add-pos-in-Bundle t c =
    omega (arith, bundle-read c.in_ok-length.ensures.value c.read_start.ensures c.in-Bundle.is c.requires.input_bound)

pub decode_packet-decode_bundle-requires : goal.decode_packet-decode_bundle-requires
decode_packet-decode_bundle-requires t c =
    let b = bundle-read c.in_ok-length.ensures.value c.read_start.ensures c.in-Bundle.is c.requires.input_bound in (
      omega (arith, b, c.decreases),
      (omega (arith, b), (past_room (bundle-past b) c.requires.table_room, omega (arith, b))),
    )

pub decode_packet-returns-in-Message : goal.decode_packet-returns-in-Message
decode_packet-returns-in-Message t c =
    let m = message-read c.in_ok-length.ensures.value c.read_start.ensures c.in-Message.is c.requires.input_bound in
    past-fills (message-past m c.message_item-item.ensures)
    c.decode_message.ensures

pub decode_packet-returns-in-Bundle : goal.decode_packet-returns-in-Bundle
decode_packet-returns-in-Bundle t c =
    let b = bundle-read c.in_ok-length.ensures.value c.read_start.ensures c.in-Bundle.is c.requires.input_bound in
    past-fills (bundle-past b) c.decode_bundle.ensures

pub decode_packet-returns-in_err-length : goal.decode_packet-returns-in_err-length
decode_packet-returns-in_err-length t c =
    let p = was-err c.in_err-length.ensures.value c.read_start.ensures in
    rw c.from_residual.ensures (fills-none (starts-refused _ _ _ p.1))

pub read_bundle_element-overflow_add-size : goal.read_bundle_element-overflow_add-size
read_bundle_element-overflow_add-size t c = omega (arith, element-in c.in_ok-size.ensures c.requires.input_bound)

pub read_bundle_element-slice_bounds-decode_packet-end : goal.read_bundle_element-slice_bounds-decode_packet-end
read_bundle_element-slice_bounds-decode_packet-end t c = omega (arith, element-in c.in_ok-size.ensures c.requires.input_bound)

pub read_bundle_element-decode_packet-requires : goal.read_bundle_element-decode_packet-requires
read_bundle_element-decode_packet-requires t c =
    let e = element-in c.in_ok-size.ensures c.requires.input_bound in
    (omega (arith, e, c.decreases), (omega (arith, e), held-room e c.requires.table_room))

pub read_bundle_element-returns : goal.read_bundle_element-returns
read_bundle_element-returns t c = element-fills (element-in c.in_ok-size.ensures c.requires.input_bound) refl c.in_ok-held.ensures

pub read_bundle_element-returns-in_err-held : goal.read_bundle_element-returns-in_err-held
read_bundle_element-returns-in_err-held t c =
    rw c.from_residual-in_err-held.ensures
    (element-fills (element-in c.in_ok-size.ensures c.requires.input_bound) refl c.in_err-held.ensures)

pub read_bundle_element-returns-in_err-size : goal.read_bundle_element-returns-in_err-size
read_bundle_element-returns-in_err-size t c = rw c.from_residual.ensures (fills-none (element-runs-out _ _ _ c.in_err-size.ensures))
