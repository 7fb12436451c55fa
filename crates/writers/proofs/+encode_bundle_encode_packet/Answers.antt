-- A turn of the bundle's loop writes one element: a gap for its size, the packet, and then the size into the gap.
use native.Mathlib.Omega.{arith}
use Rattle.wire.proofs.Parts.{length-lent}
use mathlib.Core.Path.{◌≡◌}
use Prim.Native.Nat.{◌+◌}
use borrow.Author.Rules.{rules}
use Rattle.writers.proofs.Rows.{next}
use Rattle.writers.proofs.Turns.{given, row-advances}
use Rattle.writers.proofs.Packets.{before-end, bundle, head-asked, bundle-begun, bundle-ended, element-room, packet-asked, packet-after}
use Rattle.writers.proofs.Packets.{element-gone}
use Rattle.writers.proofs.+encode_bundle_encode_packet.Goals as goal

pub encode_bundle-field_at-end-requires : goal.encode_bundle-field_at-end-requires
encode_bundle-field_at-end-requires t c = ((before-end c.requires.ready).1, omega arith)

pub encode_bundle-item_at-requires : goal.encode_bundle-item_at-requires
encode_bundle-item_at-requires t c = (before-end c.requires.ready).1

pub encode_bundle-encode_bundle_head-written-requires : goal.encode_bundle-encode_bundle_head-written-requires
encode_bundle-encode_bundle_head-written-requires t c =
    head-asked (bundle c.requires.fact c.requires.ready c.field_at-end.ensures c.item_at.ensures)

pub encode_bundle-overflow_add-at : goal.encode_bundle-overflow_add-at
encode_bundle-overflow_add-at t c = omega (arith, before-end c.requires.ready)

pub encode_bundle-loop-next-init : goal.encode_bundle-loop-next-init
encode_bundle-loop-next-init t c =
    let from : c.into_iter-next-iterator.result.at ≡ c.args.at + 1 = search rules in
    let begun = bundle-begun (bundle c.requires.fact c.requires.ready c.field_at-end.ensures c.item_at.ensures)
    c.encode_bundle_head-written.ensures in
    (search rules, search rules, rw from begun)

pub encode_bundle-slice_bounds-encode_packet-count : goal.encode_bundle-slice_bounds-encode_packet-count
encode_bundle-slice_bounds-encode_packet-count t c =
    let s = given c.loop-next.invariant.0 c.loop-next.invariant.1 c.loop-next.invariant.2 c.in-Some.ensures.steps in
    omega (arith, element-room s.going s.within)

pub encode_bundle-slice_bounds-encode_packet-start : goal.encode_bundle-slice_bounds-encode_packet-start
encode_bundle-slice_bounds-encode_packet-start t c =
    let s = given c.loop-next.invariant.0 c.loop-next.invariant.1 c.loop-next.invariant.2 c.in-Some.ensures.steps in
    omega (arith, element-room s.going s.within)

pub encode_bundle-encode_packet-length-requires : goal.encode_bundle-encode_packet-length-requires
encode_bundle-encode_packet-length-requires t c =
    let s = given c.loop-next.invariant.0 c.loop-next.invariant.1 c.loop-next.invariant.2 c.in-Some.ensures.steps in
    let cut = next s.going s.within in (
      omega (arith, s.going.passed, cut.on, cut.within, c.field_at-end.ensures),
      packet-asked s.going s.within,
    )

pub encode_bundle-overflow_cast-length : goal.encode_bundle-overflow_cast-length
encode_bundle-overflow_cast-length t c =
    let s = given c.loop-next.invariant.0 c.loop-next.invariant.1 c.loop-next.invariant.2 c.in-Some.ensures.steps in
    omega (arith, packet-after s.going s.within c.encode_packet-length.ensures)

pub encode_bundle-put_u32-requires : goal.encode_bundle-put_u32-requires
encode_bundle-put_u32-requires t c =
    let s = given c.loop-next.invariant.0 c.loop-next.invariant.1 c.loop-next.invariant.2 c.in-Some.ensures.steps in
    rw length-lent (omega (arith, packet-after s.going s.within c.encode_packet-length.ensures))

pub encode_bundle-overflow_add-written : goal.encode_bundle-overflow_add-written
encode_bundle-overflow_add-written t c =
    let s = given c.loop-next.invariant.0 c.loop-next.invariant.1 c.loop-next.invariant.2 c.in-Some.ensures.steps in
    omega (arith, packet-after s.going s.within c.encode_packet-length.ensures)

pub encode_bundle-loop-next-preserved : goal.encode_bundle-loop-next-preserved
encode_bundle-loop-next-preserved t c =
    let s = given c.loop-next.invariant.0 c.loop-next.invariant.1 c.loop-next.invariant.2 c.in-Some.ensures.steps in
    (s.same, s.still, rw s.behind (element-gone s.going s.within c.encode_packet-length.ensures c.put_u32.ensures s.end-is))

pub encode_bundle-returns : goal.encode_bundle-returns
encode_bundle-returns t c =
    bundle-ended (bundle c.requires.fact c.requires.ready c.field_at-end.ensures c.item_at.ensures) c.encode_bundle_head-written.ensures
    c.loop-next.invariant.2 (omega (arith, c.in-None.ensures.steps.0, c.loop-next.invariant.1))

pub encode_packet-kind_at-requires : goal.encode_packet-kind_at-requires
encode_packet-kind_at-requires t c = (before-end c.requires).1

pub encode_bundle-new-next-items-requires : goal.encode_bundle-new-next-items-requires
encode_bundle-new-next-items-requires t c = rw c.field_at-end.ensures (row-advances c.requires.ready.room)
