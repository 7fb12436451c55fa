-- Every packet that OSC 1.0 allows is accepted as what it is: bare by `decode_udp`, and in its frame by `decode_tcp`.
use mathlib.Core.Path.{◌≡◌, refl, sym}
use mathlib.Core.List.{List}
use Prim.Native.Nat.{ℕ, ◌+◌, ◌-◌, ◌^◌, ◌≤◌, ◌<◌}
use native.Mathlib.Omega.{arith}
use borrow.Author.Tests.{le-leb}
use lib.ListN.{length, drop, length-append}
use lib.Seq.{drop_at}
use Rattle.wire.specs.Limits.{longest, deepest}
use Rattle.node.specs.Forest.{Forest, nil, node, size, depth}
use Rattle.node.specs.declared.record.Item.{Item}
use Rattle.argument.specs.Dirt.{dirty_in}
use Rattle.packet.specs.Packet.{read_packet, one}
use Rattle.heads.specs.Heads.{prefix_of}
use Rattle.heads.specs.declared.Prefix.TheVariants as prefix
use Rattle.framing.specs.Framing.{Whole, trees, udp, read_frame, tcp}
use Rattle.answering.specs.Limits.{decoded}
use Rattle.results.specs.Results as decoder
use Rattle.osc10.specs.Osc10.{Packet, Allowed, deep, osc_int32, StandsFor}
use Rattle.standards.specs.Standards.{osc_frame, AcceptedAs, Osc10Accepted, FrameAccepted}
use Rattle.wire.proofs.Numbers.{length-bytes, read-written}
use Rattle.heads.proofs.Heads.{prefix-ready}
use Rattle.osc10.proofs.Placed.{At, at_all, at_back}
use Rattle.osc10.proofs.Packets.{packet-read}
use Rattle.osc10.proofs.Clean.{call_clean}
use Rattle.osc10.proofs.Depth.{tree-deep}

module _ (rule : List ℕ → Whole) (s : List ℕ) where
  -- trees that are read whole are decoded where there is room
  pub decode-whole : (room : ℕ) (F : Forest) → rule s ≡ trees F 0 → dirty_in s F ≡ 0 → length s ≤ longest → depth F ≤ deepest → size F ≤ room
      → decoded rule room deepest s ≡ decoder.Packets (size F) 0 0
  unfolding decoded
  decode-whole room F e z n d c = rw (le-leb (length s) longest n, e, le-leb (depth F) deepest d, le-leb (size F) room c, z)

  -- a tree that stands for a packet is accepted as it
  pub accept : (P : Packet) (item : Item) (inside : Forest) → Allowed P → length s ≤ longest → deep P ≤ deepest → StandsFor s P item inside
      → rule s ≡ trees (node item inside nil) 0 → dirty_in s (node item inside nil) ≡ 0
      → AcceptedAs rule P s
  unfolding depth
  accept P item inside h n d w e z =
      record {
        item = item;
        inside = inside;
        stands = w;
        read = e;
        decodes = λ room c. decode-whole room (node item inside nil) e z n (omega (arith, tree-deep P h w)) c;
      }

whole : (l : List ℕ) {item : Item} {f : Forest} → read_packet 0 l 0 ≡ one item f (length l) → udp l ≡ trees (node item f nil) 0
unfolding udp
whole l e = let z : length l - length l ≡ 0 = omega arith in rw (e, z)

-- every packet that OSC 1.0 allows, within the limits, is accepted as what it is
pub osc10_accepted : Osc10Accepted
osc10_accepted P l h w n d =
    let low : length l < 256 ^ 4 = omega arith in
    let r = packet-read l 0 P w h 0 refl (at_all l) low in
    accept udp l P r.item r.inside h n d r.stands (whole l r.read) (call_clean l 0 P w h 0 refl (at_all l) low r.read refl)

-- ---- in a frame

module _ (l : List ℕ) (low : length l < 256 ^ 4) where
  -- the prefix is there, and its length is not over that of the input
  frame-ready : prefix.Ready ≡ prefix_of (osc_frame l)
  frame-ready =
      let n : length (osc_frame l) ≡ 4 + length l = simp (length-append, length-bytes) in
      prefix-ready (osc_frame l) (omega arith) (sym (read-written 4 (length l) l low)) (omega arith)

  -- the packet is read from all that follows it
  frame-whole : {item : Item} {f : Forest} → read_packet 0 l 4 ≡ one item f (length l) → tcp (osc_frame l) ≡ trees (node item f nil) 0
  unfolding tcp read_frame
  frame-whole e =
      let n : length (osc_frame l) ≡ 4 + length l = simp (length-append, length-bytes) in
      let d : drop 4 (osc_frame l) ≡ l = drop_at (osc_int32 (length l)) l 4 (length-bytes 4 (length l)) in
      let z : length (osc_frame l) - (4 + length l) ≡ 0 = omega arith in
      rw (← frame-ready, d, e, z)

  -- it stands after the prefix
  pub frame_at : At (osc_frame l) 4 l
  frame_at = rw length-bytes at (at_back (osc_int32 (length l)) l (at_all (osc_frame l)))

-- the frame of every packet that OSC 1.0 allows, within the limits, is accepted as what it holds
pub frame_accepted : FrameAccepted
frame_accepted P l h w n d =
    let m : length (osc_frame l) ≡ 4 + length l = simp (length-append, length-bytes) in
    let low : length l < 256 ^ 4 = omega arith in
    let at = frame_at l low in
    let r = packet-read (osc_frame l) 0 P w h 4 refl at low in
    accept tcp (osc_frame l) P r.item r.inside h n d r.stands (frame-whole l low r.read)
    (call_clean (osc_frame l) 0 P w h 4 refl at low r.read refl)
