-- A frame's packet is what follows the prefix.
use native.Mathlib.Omega.{arith}
use lib.ListN.{length-drop}
use Rattle.wire.proofs.Parts.{tail}
use Rattle.heads.proofs.Heads.{prefix-in}
use Rattle.fill.proofs.Fills.{fills-none}
use Rattle.decoder.proofs.FrameFills.{frame-room, frame-fills, waits-nothing, short-nothing}
use Rattle.decoder.proofs.frames.decode_frame.Goals as goal

pub slice_bounds-decode_packet-count : goal.slice_bounds-decode_packet-count
slice_bounds-decode_packet-count c = omega (arith, prefix-in _ c.in-Ready.ensures)

pub slice_bounds-decode_packet-start : goal.slice_bounds-decode_packet-start
slice_bounds-decode_packet-start c = omega (arith, prefix-in _ c.in-Ready.ensures)

pub decode_packet-requires-clause-input_bound : goal.decode_packet-requires-clause-input_bound
decode_packet-requires-clause-input_bound c =
    let l = c.args.input.now in
    rw (tail l 4) (omega (arith, prefix-in _ c.in-Ready.ensures, length-drop 4 l, c.requires.input_bound))

pub decode_packet-requires-clause-table_room : goal.decode_packet-requires-clause-table_room
decode_packet-requires-clause-table_room c =
    let l = c.args.input.now in
    frame-room c.args.base l _ c.in-Ready.ensures (tail l 4) c.requires.table_room

pub returns-in-Ready : goal.returns-in-Ready
returns-in-Ready c =
    let l = c.args.input.now in
    frame-fills c.args.base l _ c.in-Ready.ensures (tail l 4) c.decode_packet.ensures

pub returns-in-Waiting : goal.returns-in-Waiting
returns-in-Waiting c = fills-none (waits-nothing _ _ c.in-Waiting.ensures)

pub returns-in-RunsOut : goal.returns-in-RunsOut
returns-in-RunsOut c = fills-none (short-nothing _ _ c.in-RunsOut.ensures)
