-- The first reading of one packet and of one frame as a whole input.
use mathlib.Core.Path.{◌≡◌, refl, ap, sym, ◌∙◌, subst}
use mathlib.Core.List.{List}
use Prim.Native.Nat.{ℕ, ◌+◌, ◌-◌, ◌≤◌}
use native.Mathlib.Nat.{zero-add}
use native.Mathlib.Omega.{arith}
use lib.Dec.{leb}
use lib.ListN.{length}
use Rattle.wire.proofs.Choices.{by-test, by_both}
use Rattle.node.specs.Forest.{Forest, nil, node, size, depth, level}
use Rattle.node.specs.declared.record.Item.{Item}
use Rattle.packet.specs.Packet.{Out, fault, one, read_packet}
use Rattle.packet.proofs.Within.{Within, packet-in}
use Rattle.argument.specs.Dirt.{dirty_in}
use Rattle.argument.proofs.Pads.{one-packet}
use Rattle.measure.specs.CodeMeasure.{extent, node_dirt}
use Rattle.measure.specs.Results.{Extent, Tree}
use Rattle.rosc_inputs.specs.Results.{FrameExtent, Total}
use Rattle.std.specs.Prelude.{None, Some}
use Rattle.rosc_inputs.specs.Results as total
use Rattle.framing.specs.Framing.{single, udp, Frame, wait, read, refused, read_frame, first, tcp}
use Rattle.rosc_inputs.specs.CodeTotals.{frame_extent, total_of, EndsIn, total_of_one}
use Rattle.framing.proofs.FrameKnot.{FrameIn, frame-in}
use Rattle.framing.proofs.FrameStarts.{StartsSo, packet-starts-so, FrameStarts, frame-starts, Unrefused, frame-unrefused}

-- the depth of one tree
pub one-tree : (item : Item) (f : Forest) → depth (node item f nil) ≡ level item.kind (depth f)
unfolding depth
one-tree item f = omega arith

-- the records of one tree
pub one_size : (item : Item) (f : Forest) → size (node item f nil) ≡ 1 + size f
unfolding size
one_size item f = omega arith

-- the dirt of one packet, in a frame that stands where its packet says
pub one-dirt : (base : ℕ) (msg : List ℕ) (item : Item) (f : Forest) → item.start - 4 ≡ base
    → dirty_in msg (node item f nil) ≡ node_dirt base msg item f
one-dirt base msg item f e = rw (← e) (one-packet msg item f)

total-single : (n limit base : ℕ) (msg : List ℕ) (o : Out) → StartsSo base o
    → total_of_one n (extent limit 0 (node_dirt base msg) o) ≡ total_of limit (dirty_in msg) (single n o)
unfolding extent
total-single n limit base msg (fault k) w = refl
total-single n limit base msg (one item f u) w =
    rw (one-tree item f, one_size item f, zero-add u, one-dirt base msg item f w)
    (by_both (λ (x : Extent) (y : Total). total_of_one n x ≡ y) (leb (level item.kind (depth f)) limit) refl refl)

-- the total of one packet is that of its extent
pub udp-total : {r : Extent} (limit : ℕ) (msg : List ℕ) → r ≡ extent limit 0 (node_dirt 0 msg) (read_packet 0 msg 0)
    → total_of_one (length msg) r ≡ total_of limit (dirty_in msg) (udp msg)
unfolding udp
udp-total limit msg e =
    ap (total_of_one (length msg)) e ∙ total-single (length msg) limit 0 msg (read_packet 0 msg 0) (packet-starts-so msg)

-- the total of one frame of n bytes of input
abbrev total_of_frame : ℕ → FrameExtent → Total
total_of_frame n None = total.Waiting
total_of_frame n (Some x) = total_of_one n x

total_first : (n limit base : ℕ) (msg : List ℕ) (x : Frame) → FrameStarts base x → Unrefused x
    → total_of_frame n (frame_extent limit (node_dirt base msg) x) ≡ total_of limit (dirty_in msg) (first n x)
total_first n limit base msg wait w u = refl
total_first n limit base msg (refused k) w u = absurd u
total_first n limit base msg (read o) w u = total-single n limit base msg o w

-- the total of one frame is that of its extent
pub tcp-total : {r : FrameExtent} (limit : ℕ) (msg : List ℕ) → r ≡ frame_extent limit (node_dirt 0 msg) (read_frame 0 msg)
    → total_of_frame (length msg) r ≡ total_of limit (dirty_in msg) (tcp msg)
unfolding tcp
tcp-total limit msg e =
    ap (total_of_frame (length msg)) e ∙ total_first (length msg) limit 0 msg (read_frame 0 msg) (frame-starts 0 msg) (frame-unrefused 0 msg)

ends-in : (limit n : ℕ) (dirt : Item → Forest → ℕ) (o : Out) → Within n o → EndsIn n (extent limit 0 dirt o)
unfolding extent
ends-in limit n dirt (fault k) w = tt
ends-in limit n dirt (one item f u) w = by-test (EndsIn n) (leb (level item.kind (depth f)) limit) (λ _. omega arith) (λ _. tt)

-- one packet ends in its input
pub udp-ends : {r : Extent} (limit : ℕ) (msg : List ℕ) → r ≡ extent limit 0 (node_dirt 0 msg) (read_packet 0 msg 0) → EndsIn (length msg) r
udp-ends limit msg e = rw e (ends-in limit (length msg) (node_dirt 0 msg) (read_packet 0 msg 0) (packet-in 0 msg 0))

-- a frame ends in its input
abbrev FrameEnds : ℕ → FrameExtent → Type 0
FrameEnds n None = Unit {0}
FrameEnds n (Some x) = EndsIn n x

frame_ends : (limit n : ℕ) (dirt : Item → Forest → ℕ) (x : Frame) → FrameIn n x → FrameEnds n (frame_extent limit dirt x)
unfolding extent
frame_ends limit n dirt wait w = tt
frame_ends limit n dirt (refused k) w = tt
frame_ends limit n dirt (read (fault k)) w = tt
frame_ends limit n dirt (read (one item f u)) w = by-test (EndsIn n) (leb (level item.kind (depth f)) limit) (λ _. omega arith) (λ _. tt)

-- a tree that ends in its input
pub ends-tree : {x : Extent} {count next dirty : ℕ} (n : ℕ) → x ≡ Tree count next dirty → EndsIn n x → next ≤ n
ends-tree n e w = subst (EndsIn n) e w

-- the packet of a frame ends in its input
pub tcp-ends : {x : Extent} (limit : ℕ) (msg : List ℕ) → Some x ≡ frame_extent limit (node_dirt 0 msg) (read_frame 0 msg)
    → EndsIn (length msg) x
tcp-ends limit msg e =
    subst (FrameEnds (length msg)) (sym e) (frame_ends limit (length msg) (node_dirt 0 msg) (read_frame 0 msg) (frame-in 0 msg))
