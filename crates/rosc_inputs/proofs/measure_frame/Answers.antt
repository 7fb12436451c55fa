-- The extent of the packet after the prefix, whose position is 4.
use mathlib.Core.Path.{sym, ◌∙◌}
use native.Mathlib.Omega.{arith}
use Rattle.wire.proofs.Parts.{tail}
use Rattle.argument.proofs.Stands.{stands-drop}
use Rattle.heads.proofs.Heads.{prefix-in}
use Rattle.rosc_inputs.proofs.FrameExtents.{frame-ready, frame_waits, frame-runs-out}
use Rattle.rosc_inputs.proofs.measure_frame.Goals as goal

pub slice_bounds-measure_packet-count : goal.slice_bounds-measure_packet-count
slice_bounds-measure_packet-count c = omega (arith, prefix-in _ (sym c.in-Ready.is ∙ c.read_prefix.ensures))

pub slice_bounds-measure_packet-start : goal.slice_bounds-measure_packet-start
slice_bounds-measure_packet-start c = omega (arith, prefix-in _ (sym c.in-Ready.is ∙ c.read_prefix.ensures))

pub returns-in-Ready : goal.returns-in-Ready
returns-in-Ready c = λ base msg w.
    let l = c.args.input.now in
    let ready = sym c.in-Ready.is ∙ c.read_prefix.ensures in
    frame-ready base l _ _ _ ready (tail l 4)
    (c.measure_packet.ensures base msg (rw (tail l 4) (stands-drop msg base l w 4 (prefix-in l ready))))

pub returns-in-Waiting : goal.returns-in-Waiting
returns-in-Waiting c = λ base msg w. frame_waits base _ _ _ (sym c.in-Waiting.is ∙ c.read_prefix.ensures)

pub returns-in-RunsOut : goal.returns-in-RunsOut
returns-in-RunsOut c = λ base msg w. frame-runs-out base _ _ _ (sym c.in-RunsOut.is ∙ c.read_prefix.ensures)
