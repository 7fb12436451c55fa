-- An element is accepted if its packet is.
use lib.ListN.{length-drop, length-take, drop}
use native.Mathlib.Omega.{arith}
use Rattle.heads.proofs.Heads.{part-4, size_in}
use Rattle.measure.proofs.Skims.{skim-packet, skim-none}
use Rattle.measure.proofs.skim_element.Goals as goal

pub overflow_add-size : goal.overflow_add-size
overflow_add-size c = omega (arith, size_in _ c.in_ok-size.ensures)

pub slice_bounds-is_packet-end : goal.slice_bounds-is_packet-end
slice_bounds-is_packet-end c = omega (arith, size_in _ c.in_ok-size.ensures)

pub is_packet-requires : goal.is_packet-requires
is_packet-requires c =
    let l = c.args.input.now in
    let n = c.in_ok-size.size in
    rw (part-4 l n) (omega (arith, size_in _ c.in_ok-size.ensures, length-take n (drop 4 l), length-drop 4 l))

pub returns-then-is_packet : goal.returns-then-is_packet
returns-then-is_packet c base =
    skim-packet base _ _ _ c.in_ok-size.ensures (part-4 c.args.input.now c.in_ok-size.size) (c.if-is_packet.ensures base)

pub returns : goal.returns
returns c base =
    skim-packet base _ _ _ c.in_ok-size.ensures (part-4 c.args.input.now c.in_ok-size.size) (c.if-is_packet.ensures base)

pub returns-in_err-size : goal.returns-in_err-size
returns-in_err-size c base = rw c.from_residual.ensures (skim-none base _ _ c.in_err-size.ensures)
