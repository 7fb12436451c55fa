-- A stream of frames in edition 2: it is accepted as its packets; and frames that were written one after another are read back as the same
-- trees.
use mathlib.Core.Path.{◌≡◌, refl, ◌∙◌}
use mathlib.Core.List.{List, [], ◌++◌}
use Prim.Native.Nat.{ℕ, ◌+◌, ◌^◌, ◌≤◌, ◌<◌}
use native.Mathlib.Omega.{arith}
use lib.ListN.{length, drop, length-append}
use lib.Seq.{drop_at}
use Rattle.wire.specs.Limits.{longest, deepest}
use Rattle.wire.proofs.Numbers.{length-bytes}
use Rattle.node.specs.Forest.{Forest, nil, node, depth}
use Rattle.argument.specs.Dirt.{packets_padding, dirty_in}
use Rattle.argument.proofs.Pads.{packets-join, one-packet}
use Rattle.framing.specs.Framing.{trees, tcp_vec2}
use Rattle.framing.proofs.Lists.{vec2-remaining}
use Rattle.decoder.proofs.Cuts.{rest_of, rest-tree}
use Rattle.writers.specs.Osc.{write_packet}
use Rattle.osc10.specs.Osc10.{Packets, none, also, AllAllowed, osc_int32, StandFor, no_packet, packet, Spelled}
use Rattle.osc10.proofs.Placed.{At, at_all, at_front, at_back}
use Rattle.osc10.proofs.Packets.{packet-read}
use Rattle.osc10.proofs.Clean.{call_clean}
use Rattle.osc10.proofs.Depth.{tree-deep}
use Rattle.osc10.proofs.Spelled.{packet-is}
use Rattle.standards.specs.Standards.{osc_frame}
use Rattle.standards.specs.Trip as trip
use Rattle.standards.specs.Streams.{Stream, AllShallow, StreamAccepted, Fitted, Played, Frames, FramesTrip}
use Rattle.standards.specs.Streams as streams
use Rattle.standards.proofs.Osc10.Accepted.{decode-whole}
use Rattle.standards.proofs.Osc10.Trees.{same-tree}
use Rattle.standards.proofs.Streams.Frames.{spelled-even, frame-given}

-- a stream that stands at `base` of s: its trees, of which nothing is dirty and none too deep
record Found (s : List ℕ) (base : ℕ) (packets : Packets) (l : List ℕ) : Type 0 where
  forest : Forest
  stand : StandFor s packets forest
  read : rest_of deepest base l ≡ trees forest 0
  clean : dirty_in s forest ≡ 0
  shallow : depth forest ≤ deepest

module _ (s : List ℕ) (low : length s ≤ longest) where
  found : (base : ℕ) (packets : Packets) {l : List ℕ} → Stream packets l → AllAllowed packets → AllShallow packets → At s base l
      → base + length l ≤ longest → Found s base packets l
  unfolding depth packets_padding AllAllowed
  found base none streams.ends a d at h =
      record { forest = nil; stand = no_packet; read = refl; clean = refl; shallow = omega arith }
  found base (also P Ps) (streams.frame {l = l} {more = more} w r) a d at h =
      let n : length (osc_frame l ++ more) ≡ 4 + length l + length more = simp (length-append, length-bytes) in
      let m : length (osc_frame l) ≡ 4 + length l = simp (length-append, length-bytes) in
      let b : length l < 256 ^ 4 = omega arith in
      let here : At s (base + 4) l = rw length-bytes at (at_back (osc_int32 (length l)) l (at_front (osc_frame l) more at)) in
      let x = packet-read s base P w a.0 4 refl here b in
      let c = call_clean s base P w a.0 4 refl here b x.read (omega arith) in
      let g = frame-given l more (omega arith) (spelled-even w) deepest base x.read
      (omega (arith, d.0, tree-deep P a.0 x.stands)) in
      let later : At s (base + (4 + length l)) more = rw m at (at_back (osc_frame l) more at) in
      let f = found (base + (4 + length l)) Ps r a.1 d.1 later (omega arith) in
      let rest : drop (4 + length l) (osc_frame l ++ more) ≡ more = drop_at (osc_frame l) more (4 + length l) m in
      record {
        forest = node x.item x.inside f.forest;
        stand = packet x.stands f.stand;
        read = rest-tree deepest base (osc_frame l ++ more) (omega arith) g ∙ rw (rest, f.read);
        clean = omega (arith, packets-join s x.item x.inside f.forest, one-packet s x.item x.inside, c, f.clean);
        shallow = omega (arith, d.0, tree-deep P a.0 x.stands, f.shallow);
      }

-- a stream of packets that OSC 1.0 allows, within the limits, is accepted as those packets
pub stream_accepted : StreamAccepted
stream_accepted packets s w a d n =
    let f = found s n 0 packets w a d (at_all s) (omega arith) in
    let e : tcp_vec2 deepest s ≡ trees f.forest 0 = vec2-remaining deepest s ∙ f.read in
    record {
      forest = f.forest;
      stand = f.stand;
      read = e;
      decodes = λ room c. decode-whole (tcp_vec2 deepest) s room f.forest e f.clean n f.shallow c;
    }

-- ---- the round trip

-- the packets of frames that were written
record Spoken (l : List ℕ) : Type 0 where
  packets : Packets
  stream : Stream packets l
  allowed : AllAllowed packets
  shallow : AllShallow packets
  back : (s : List ℕ) (F : Forest) → StandFor s packets F → Played s l F

spoken : {l : List ℕ} → Frames l → Spoken l
unfolding AllAllowed depth
spoken streams.Frames.ends = record { packets = none; stream = streams.ends; allowed = tt; shallow = tt; back = by-stand }
  where
    by-stand : (s : List ℕ) (F : Forest) → StandFor s none F → Played s [] F
    by-stand s nil no_packet = streams.Played.ends
    by-stand s (node item inside rest) x = elim x [ ]
spoken (streams.Frames.frame {more = more} source item inside w r) =
    let S = packet-is source w.sourced item inside w.obeys w.clean w.fields in
    let R = spoken r in
    record {
      packets = also S.packet R.packets;
      stream = streams.frame S.spells R.stream;
      allowed = (S.allowed, R.allowed);
      shallow = (omega (arith, w.shallow, tree-deep S.packet S.allowed S.stands), R.shallow);
      back = λ s F x. again w S (R.back s) x;
    }
  where
    again : {s : List ℕ} {Ps : Packets} {F : Forest} → Fitted source item inside
        → (S : Spelled source item inside (write_packet source item inside)) → ((G : Forest) → StandFor s Ps G → Played s more G)
        → StandFor s (also S.packet Ps) F → Played s (osc_frame (write_packet source item inside) ++ more) F
    again w S go (packet x y) =
        streams.Played.frame w (same-tree S.packet S.allowed S.stands x trip.Same.none) (go _ y)

-- frames written one after another are read back as a list of the same trees
pub frames_trip : FramesTrip
frames_trip s w n =
    let S = spoken w in
    let A = stream_accepted S.packets s S.stream S.allowed S.shallow n in
    record { forest = A.forest; same = S.back s A.forest A.stand; read = A.read }
