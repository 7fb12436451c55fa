-- Whole inputs: document 01, "How bytes are read", rules 6 and 7, and `decode_udp`, for edition 1; document 02, Ticket 1, for edition 2.
use Rattle.std.specs.Prelude.{cond, List, [], ◌∷◌, ℕ, zero, suc, ◌+◌, ◌-◌, eqb, leb, length, take, drop}
use Rattle.refusal.specs.Refusal.{moved_by}
use Rattle.refusal.specs.declared.Fault.TheVariants.{Short}
use Rattle.refusal.specs.declared.Field.TheVariants.{Head}
use Rattle.refusal.specs.declared.Refusal.{Refusal}
use Rattle.refusal.specs.declared.Refusal.TheVariants.{TooLong, Unreadable, TooDeep, BytesLeft, OddLength}
use Rattle.node.specs.Forest.{Forest, nil, node, depth}
use Rattle.node.specs.declared.record.Item.{Item}
use Rattle.heads.specs.Heads.{prefix_of, length_of}
use Rattle.packet.specs.Packet.{Out, fault, one, after, read_packet}
use Rattle.heads.specs.declared.Prefix.{Prefix}
use Rattle.heads.specs.declared.Prefix.TheVariants as prefix
use Rattle.heads.specs.Results.{Length}
use Rattle.heads.specs.Results as cut
use Rattle.edition.specs.declared.Edition.TheVariants.{Rosc, Standard}
use Rattle.edition.specs.declared.Framing.{Framing}
use Rattle.edition.specs.declared.Framing.TheVariants.{Udp, Tcp, TcpVec}

-- what an input is read as, before the table's room: trees and the bytes left over; nothing yet; a refusal; of an edition 2 list the trees
-- before a refused frame, the bytes from its prefix on, why it is refused, and its offset
pub data Whole : Type 0 where
  trees : (forest : Forest) (left : ℕ) → Whole
  waiting : Whole
  refusal : Refusal → Whole
  stopped : (forest : Forest) (left : ℕ) (why : Refusal) (frame : ℕ) → Whole

-- one packet of n bytes of input
abbrev pub single : ℕ → Out → Whole
single n (fault k) = refusal (Unreadable k)
single n (one item inside used) = trees (node item inside nil) (n - used)

-- `decode_udp`: a packet from all of the input
unfoldable pub udp : List ℕ → Whole
udp msg = single (length msg) (read_packet 0 msg 0)

-- ---- one frame

-- what a frame is read as: nothing yet; its packet, whose `used` counts the prefix too; or, in edition 2, why the frame is refused
pub data Frame : Type 0 where
  wait : Frame
  read : Out → Frame
  refused : Refusal → Frame

-- both editions: a packet from these bytes after the prefix, and a judge of what it left
abbrev pub framed : (Out → Frame) → ℕ → List ℕ → Frame
framed judge base bytes = judge (after 4 (read_packet base bytes 4))

-- edition 1, the frame with this prefix: a packet from everything after it, and its length cuts nothing
abbrev pub frame_with : ℕ → List ℕ → Prefix → Frame
frame_with base l prefix.Ready = framed read base (drop 4 l)
frame_with base l prefix.Waiting = wait
frame_with base l prefix.RunsOut = read (fault (Short Head 0))

-- rule 6: the frame at the front of l, which stands at offset `base` of the call's input
unfoldable pub read_frame : ℕ → List ℕ → Frame
read_frame base l = frame_with base l (prefix_of l)

-- edition 2, a packet in a frame of n bytes, prefix included: "15 (bytes left in the frame), 9"
abbrev pub wholly : ℕ → ℕ → Out → Frame
wholly limit n (fault k) = read (fault k)
wholly limit n (one item inside used) =
    cond (eqb used n) (cond (leb (depth (node item inside nil)) limit) (read (one item inside used)) (refused TooDeep)) (refused BytesLeft)

-- edition 2, the frame with this length: the length cuts the packet
abbrev pub cut_with : ℕ → ℕ → List ℕ → Length → Frame
cut_with limit base l (cut.Cuts n) = framed (wholly limit (4 + n)) base (take n (drop 4 l))
cut_with limit base l cut.Waiting = wait
cut_with limit base l cut.Over = refused TooLong
cut_with limit base l cut.Odd = refused OddLength

-- Ticket 1: the frame at the front of l in edition 2, by the depth limit
unfoldable pub cut_frame : ℕ → ℕ → List ℕ → Frame
cut_frame limit base l = cut_with limit base l (length_of l)

-- the answer of one frame of n bytes of input
abbrev pub first : ℕ → Frame → Whole
first n wait = waiting
first n (read o) = single n o
first n (refused k) = refusal k

-- `decode_tcp` in edition 1
unfoldable pub tcp : List ℕ → Whole
tcp msg = first (length msg) (read_frame 0 msg)

-- `decode_tcp` in edition 2
unfoldable pub tcp2 : ℕ → List ℕ → Whole
tcp2 limit msg = first (length msg) (cut_frame limit 0 msg)

-- ---- a list of frames

-- a tree before others; a refusal refuses the whole call
abbrev pub before : Item → Forest → Whole → Whole
before item inside (trees rest left) = trees (node item inside rest) left
before item inside waiting = waiting
before item inside (refusal k) = refusal k
before item inside (stopped rest left k at) = stopped (node item inside rest) left k at

-- the list whose first frame holds this packet: it ends where nothing is left. `stop` is what a refused frame makes of the list, by the
-- frame's offset, the bytes from there on and why. A fault is told from the frame's prefix on, and the frame's offset is added once, here
-- (Ticket 2)
abbrev pub after_packet : (ℕ → ℕ → Refusal → Whole) → (ℕ → List ℕ → Whole) → ℕ → List ℕ → Out → Whole
after_packet stop go base l (fault k) = stop base (length l) (Unreadable (moved_by base k))
after_packet stop go base l (one item inside used) =
    cond (leb (length l) used) (trees (node item inside nil) 0) (before item inside (go (base + used) (drop used l)))

-- rule 7: repeat until nothing is left or Waiting; what waits is left over
abbrev pub after_frame : (ℕ → ℕ → Refusal → Whole) → (ℕ → List ℕ → Whole) → ℕ → List ℕ → Frame → Whole
after_frame stop go base l wait = trees nil (length l)
after_frame stop go base l (read o) = after_packet stop go base l o
after_frame stop go base l (refused k) = stop base (length l) k

-- the frames of l, each read by `frame`: at most n of them. The line for 0 is never met, since a frame takes a byte at least
-- (proofs/FrameKnot.antt: list-eq)
unfoldable pub frames_at : (ℕ → List ℕ → Frame) → (ℕ → ℕ → Refusal → Whole) → ℕ → ℕ → List ℕ → Whole
frames_at frame stop zero base l = waiting
frames_at frame stop (suc n) base l = after_frame stop (λ b m. frames_at frame stop n b m) base l (frame base l)

-- a list of frames: proofs/FrameKnot.antt says it without a number of frames, listed ≡ after_frame stop listed
abbrev pub listed : (ℕ → List ℕ → Frame) → (ℕ → ℕ → Refusal → Whole) → ℕ → List ℕ → Whole
listed frame stop base l = frames_at frame stop (suc (length l)) base l

-- edition 1: a refused frame refuses the whole call
abbrev pub refuses : ℕ → ℕ → Refusal → Whole
refuses base left k = refusal k

-- edition 2: a refused frame ends the list, which says where and why
abbrev pub stops : ℕ → ℕ → Refusal → Whole
stops base left k = stopped nil left k base

-- the list of edition 1
abbrev pub read_frames : ℕ → List ℕ → Whole
read_frames = listed (λ b m. read_frame b m) refuses

-- the list of edition 2, where something is left of it
abbrev pub cut_frames : ℕ → ℕ → List ℕ → Whole
cut_frames limit = listed (λ b m. cut_frame limit b m) stops

-- `decode_tcp_vec` in edition 1
unfoldable pub tcp_vec : List ℕ → Whole
tcp_vec msg = read_frames 0 msg

-- `decode_tcp_vec` in edition 2: "an empty list input gives no packets and nothing left"
unfoldable pub tcp_vec2 : ℕ → List ℕ → Whole
tcp_vec2 limit [] = trees nil 0
tcp_vec2 limit (x ∷ msg) = cut_frames limit 0 (x ∷ msg)

-- the rule of each framing, by the depth limit, on which edition 2 depends: there 9 is of a frame
abbrev pub rule_of : Framing → ℕ → List ℕ → Whole
rule_of Udp limit = udp
rule_of (Tcp Rosc) limit = tcp
rule_of (Tcp Standard) limit = tcp2 limit
rule_of (TcpVec Rosc) limit = tcp_vec
rule_of (TcpVec Standard) limit = tcp_vec2 limit
