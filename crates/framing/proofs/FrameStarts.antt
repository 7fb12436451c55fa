-- A frame's prefix stands 4 bytes before its packet, and a UDP packet at 0: so a packet tells where its frame stands.
use mathlib.Core.Path.{◌≡◌}
use mathlib.Core.List.{List}
use Prim.Native.Nat.{ℕ, ◌+◌, ◌-◌}
use native.Mathlib.Omega.{arith}
use lib.Dec.{leb}
use lib.ListN.{take, drop}
use Rattle.wire.proofs.Choices.{by-test, by-eq}
use Rattle.node.specs.Forest.{nil, node, depth}
use Rattle.heads.specs.Heads.{prefix_of, length_of}
use Rattle.heads.specs.declared.Prefix.{Prefix}
use Rattle.heads.specs.declared.Prefix.TheVariants as prefix
use Rattle.heads.specs.Results.{Length}
use Rattle.heads.specs.Results as cut
use Rattle.packet.specs.Packet.{Out, fault, one, after, read_packet}
use Rattle.packet.proofs.Items.{HasStart, packet-starts}
use Rattle.framing.specs.Framing.{Frame, wait, read, refused, frame_with, read_frame, wholly, cut_with, cut_frame}

-- the frame of a packet that is accepted stands at `base`
abbrev pub StartsSo : ℕ → Out → Type 0
StartsSo base (fault k) = Unit {0}
StartsSo base (one item f u) = item.start - 4 ≡ base

so-after : (base n : ℕ) (o : Out) → HasStart (base + 4) o → StartsSo base (after n o)
so-after base n (fault k) w = tt
so-after base n (one item f u) w = omega arith

so-whole : (o : Out) → HasStart (0 + 0) o → StartsSo 0 o
so-whole (fault k) w = tt
so-whole (one item f u) w = omega arith

-- a UDP packet has none, and is its own frame
pub packet-starts-so : (msg : List ℕ) → StartsSo 0 (read_packet 0 msg 0)
packet-starts-so msg = so-whole (read_packet 0 msg 0) (packet-starts 0 msg 0)

-- of a frame that does not wait
abbrev pub FrameStarts : ℕ → Frame → Type 0
FrameStarts base wait = Unit {0}
FrameStarts base (read o) = StartsSo base o
FrameStarts base (refused k) = Unit {0}

-- a frame stands 4 bytes before its packet
pub frame-starts : (base : ℕ) (l : List ℕ) → FrameStarts base (read_frame base l)
unfolding read_frame
frame-starts base l = by-prefix (prefix_of l)
  where
    by-prefix : (x : Prefix) → FrameStarts base (frame_with base l x)
    by-prefix prefix.Ready = so-after base 4 (read_packet base (drop 4 l) 4) (packet-starts base (drop 4 l) 4)
    by-prefix prefix.Waiting = tt
    by-prefix prefix.RunsOut = tt

-- edition 1 refuses no frame of its own: what it refuses is a packet or a prefix
abbrev pub Unrefused : Frame → Type 0
Unrefused wait = Unit {0}
Unrefused (read o) = Unit {0}
Unrefused (refused k) = ⊥

pub frame-unrefused : (base : ℕ) (l : List ℕ) → Unrefused (read_frame base l)
unfolding read_frame
frame-unrefused base l = by-prefix (prefix_of l)
  where
    by-prefix : (x : Prefix) → Unrefused (frame_with base l x)
    by-prefix prefix.Ready = tt
    by-prefix prefix.Waiting = tt
    by-prefix prefix.RunsOut = tt

whole-starts : (limit n base : ℕ) (o : Out) → StartsSo base o → FrameStarts base (wholly limit n o)
whole-starts limit n base (fault k) w = tt
whole-starts limit n base (one item f u) w =
    by-eq (FrameStarts base) u n
    (λ e. by-test (FrameStarts base) (leb (depth (node item f nil)) limit) (λ _. w) (λ _. tt)) (λ e. tt)

-- so does a frame of edition 2
pub cut-starts : (limit base : ℕ) (l : List ℕ) → FrameStarts base (cut_frame limit base l)
unfolding cut_frame
cut-starts limit base l = by_length (length_of l)
  where
    by_length : (x : Length) → FrameStarts base (cut_with limit base l x)
    by_length (cut.Cuts n) =
        let bytes = take n (drop 4 l) in
        whole-starts limit (4 + n) base (after 4 (read_packet base bytes 4))
        (so-after base 4 (read_packet base bytes 4) (packet-starts base bytes 4))
    by_length cut.Waiting = tt
    by_length cut.Over = tt
    by_length cut.Odd = tt
