-- The field that a call tells is the one that is short: `decode_udp`, `decode_tcp`, and the list of edition 1 (Ticket 2).
use mathlib.Core.Path.{◌≡◌, refl, subst}
use mathlib.Core.List.{List}
use Prim.Native.Nat.{ℕ, zero, suc, ◌+◌, ◌<◌}
use native.Mathlib.Omega.{arith}
use lib.ListN.{length, drop, length-drop}
use Rattle.refusal.specs.Refusal.{moved_by}
use Rattle.refusal.specs.declared.Fault.{Fault}
use Rattle.refusal.specs.declared.Fault.TheVariants.{Empty, Short, NotUtf8, BadStart, NotOpen, UnknownTag, NotScalar}
use Rattle.refusal.specs.declared.Field.{Field}
use Rattle.refusal.specs.declared.Refusal.{Refusal}
use Rattle.refusal.specs.declared.Refusal.TheVariants.{Unreadable}
use Rattle.wire.specs.Number.{number}
use Rattle.wire.proofs.Choices.{by_le}
use Rattle.node.specs.Forest.{Forest}
use Rattle.node.specs.Records.{capacity}
use Rattle.node.specs.declared.record.Item.{Item}
use Rattle.heads.specs.Heads.{prefix_of}
use Rattle.packet.specs.Packet.{Out, fault, one, after, read_packet}
use Rattle.framing.specs.Framing.{Whole, trees, waiting, refusal, stopped, single, udp, Frame, wait, read, frame_with, read_frame, first}
use Rattle.framing.specs.Framing as frames
use Rattle.framing.specs.Framing.{tcp, before, after_frame, frames_at, refuses, tcp_vec}
use Rattle.framing.proofs.FrameKnot.{FrameIn, frame-in}
use Rattle.std.specs.Prelude.{Err}
use Rattle.calls.specs.Demands.{answer_to}
use Rattle.calls.specs.Fields.{prefix, packet_fields, frame_fields, cut_here, PacketShort, FrameShort, Reaches, first_frame, next_frame}
use Rattle.calls.specs.Fields.{ListShort, FieldsShort, ListFieldsShort}
use Rattle.calls.proofs.Longer.Faults.{read-refused}
use Rattle.calls.proofs.Fields.Judged.{Judgement, bad, Judged, pass, out_end, after-end, packet-judged}

-- ---- one packet, one frame

-- how a frame ends, if its packet is read, is as P says; why a frame of edition 2 is refused is no fault
abbrev pub FrameHas : (Judgement → Type 0) → Frame → Type 0
FrameHas P wait = Unit {0}
FrameHas P (read o) = P (out_end o)
FrameHas P (frames.refused r) = (k : Fault) → r ≡ Unreadable k → ⊥

-- a fault of a frame of edition 1 tells the field that is short, and one that is accepted has none
pub frame-judged : (base : ℕ) (l : List ℕ) → FrameHas (Judged (frame_fields l) l 0) (read_frame base l)
unfolding read_frame prefix_of
frame-judged base l =
    let Has : Frame → Type 0 = FrameHas (Judged (frame_fields l) l 0) in
    let o = read_packet base (drop 4 l) 4 in
    by_le (λ x. Has (frame_with base l x)) 4 (length l)
    (λ h. by_le (λ x. Has (frame_with base l x)) (number 4 l) (length l)
    (λ _. pass prefix (packet_fields (drop 4 l) 4) l 0 h (out_end (after 4 o))
    (subst (Judged (packet_fields (drop 4 l) 4) (drop 4 l) 4) (after-end 4 o) (packet-judged base (drop 4 l) 4)))
    (λ _. tt))
    (λ h. cut_here h)

-- the fault that an input of one packet is read as, if any, is as P says
abbrev WholeHas : (Judgement → Type 0) → Whole → Type 0
WholeHas P (trees f left) = Unit {0}
WholeHas P waiting = Unit {0}
WholeHas P (refusal r) = (k : Fault) → r ≡ Unreadable k → P (bad k)
WholeHas P (stopped f left k at) = Unit {0}

single-has : (P : Judgement → Type 0) (n : ℕ) (o : Out) → P (out_end o) → WholeHas P (single n o)
single-has P n (fault k) s = λ j e. let same : k ≡ j = cc in subst (λ (x : Fault). P (bad x)) same s
single-has P n (one item inside used) s = tt

-- of an input of one frame it is the frame's
pub first-has : (P : Judgement → Type 0) (n : ℕ) (x : Frame) → FrameHas P x → WholeHas P (first n x)
first-has P n wait s = tt
first-has P n (read o) s = single-has P n o s
first-has P n (frames.refused r) s = λ k e. absurd (s k e)

-- the fault that a call tells of is the one that its input is read as
pub told-has : {k : Fault} (P : Judgement → Type 0) (rule : List ℕ → Whole) (limit : ℕ) (msg table : List ℕ) → WholeHas P (rule msg)
    → answer_to rule limit msg table ≡ Err (Unreadable k) → P (bad k)
told-has {k} P rule limit msg table h e = subst (WholeHas P) (read-refused rule (capacity table) limit msg e) h k refl

-- the field that `decode_udp` tells is the one that is short
pub fields_short_udp : FieldsShort udp PacketShort
unfolding udp
fields_short_udp msg limit table field at =
    let P : Judgement → Type 0 = Judged (packet_fields msg 0) msg 0 in
    told-has P udp limit msg table (single-has P (length msg) (read_packet 0 msg 0) (packet-judged 0 msg 0))

-- and the one that `decode_tcp` tells
pub fields_short_tcp : FieldsShort tcp FrameShort
unfolding tcp
fields_short_tcp msg limit table field at =
    let P : Judgement → Type 0 = Judged (frame_fields msg) msg 0 in
    told-has P tcp limit msg table (first-has P (length msg) (read_frame 0 msg) (frame-judged 0 msg))

-- ---- lists

-- a fault k of the list l, which stands at offset `base`: it is that of the frame at offset `at`, which the list reads and whose own fault,
-- told from its prefix on, is as Has says of the bytes from there on
pub record InFrame (frame : ℕ → List ℕ → Frame) (Has : List ℕ → Judgement → Type 0) (base : ℕ) (l : List ℕ) (at : ℕ) (k : Fault) : Type 0
  where
    pub from : List ℕ
    pub reached : Reaches frame base l at from
    pub own : Fault
    pub moved : k ≡ moved_by at own
    pub has : Has from (bad own)

-- the field of a list's frame is the one that the list tells of
pub own-field : {start at : ℕ} {field : Field} (frame : ℕ → List ℕ → Frame) (Has : List ℕ → Judgement → Type 0)
    (Is : List ℕ → Field → ℕ → Type 0) → ((m : List ℕ) (f : Field) (b : ℕ) → Has m (bad (Short f b)) → Is m f b) → (msg : List ℕ)
    → InFrame frame Has 0 msg start (Short field at) → ListShort frame Is msg field at start
own-field {start} {at} {field} frame Has Is says msg s = by-own s.own s.moved s.has
  where
    by-own : (k : Fault) → Short field at ≡ moved_by start k → Has s.from (bad k) → ListShort frame Is msg field at start
    by-own (Short g b) e t =
        let same : g ≡ field = cc in
        let sum : at ≡ start + b = cc in
        record {
          from = s.from;
          reached = s.reached;
          own = b;
          offset = omega (arith, sum);
          short = says s.from field b (subst (λ (f : Field). Has s.from (bad (Short f b))) same t);
        }
    by-own Empty e t = let z : ◌≡◌ {A = ℕ} 0 1 = cc in absurd (omega arith)
    by-own NotUtf8 e t = let z : ◌≡◌ {A = ℕ} 0 1 = cc in absurd (omega arith)
    by-own BadStart e t = let z : ◌≡◌ {A = ℕ} 0 1 = cc in absurd (omega arith)
    by-own NotOpen e t = let z : ◌≡◌ {A = ℕ} 0 1 = cc in absurd (omega arith)
    by-own UnknownTag e t = let z : ◌≡◌ {A = ℕ} 0 1 = cc in absurd (omega arith)
    by-own NotScalar e t = let z : ◌≡◌ {A = ℕ} 0 1 = cc in absurd (omega arith)

module _ (frame : ℕ → List ℕ → Frame) (Has : List ℕ → Judgement → Type 0) where
  -- the fault that a list is read as, if any, is of a frame that it reads: in edition 2 of the one at which the list stops
  abbrev pub ListHas : ℕ → List ℕ → Whole → Type 0
  ListHas base l (trees f left) = Unit {0}
  ListHas base l waiting = Unit {0}
  ListHas base l (refusal r) = (k : Fault) → r ≡ Unreadable k → (at : ℕ) × InFrame frame Has base l at k
  ListHas base l (stopped f left r at) = (k : Fault) → r ≡ Unreadable k → InFrame frame Has base l at k

  at_front : {k : Fault} (base : ℕ) (l : List ℕ) (own : Fault) → k ≡ moved_by base own → Has l (bad own) → InFrame frame Has base l base k
  at_front base l own e s = record { from = l; reached = first_frame; own = own; moved = e; has = s }

  module _ {item : Item} {f : Forest} {used base : ℕ} {l : List ℕ} (e : frame base l ≡ read (one item f used)) (h : used < length l) where
    passed : {at : ℕ} {k : Fault} → InFrame frame Has (base + used) (drop used l) at k → InFrame frame Has base l at k
    passed s =
        record { from = s.from; reached = next_frame e h s.reached; own = s.own; moved = s.moved; has = s.has }

    before-has : (w : Whole) → ListHas (base + used) (drop used l) w → ListHas base l (before item f w)
    before-has (trees g left) s = tt
    before-has waiting s = tt
    before-has (refusal r) s = λ k e. let w = s k e in (w.0, passed w.1)
    before-has (stopped g left r at) s = λ k e. passed (s k e)

  -- what a refused frame makes of a list tells of that frame
  abbrev pub Stopping : (ℕ → ℕ → Refusal → Whole) → Type 0
  Stopping stop =
      (base : ℕ) (l : List ℕ) (r : Refusal) → ((k : Fault) → r ≡ Unreadable k → InFrame frame Has base l base k)
      → ListHas base l (stop base (length l) r)

  module _ (stop : ℕ → ℕ → Refusal → Whole) (stopping : Stopping stop) where
    after-frame-has : (go : ℕ → List ℕ → Whole) (base : ℕ) (l : List ℕ) (x : Frame) → frame base l ≡ x → FrameIn (length l) x
        → FrameHas (Has l) x → ((q : ℕ) (m : List ℕ) → length m < length l → ListHas q m (go q m))
        → ListHas base l (after_frame stop go base l x)
    after-frame-has go base l wait e w s h = tt
    after-frame-has go base l (frames.refused r) e w s h = stopping base l r (λ k g. absurd (s k g))
    after-frame-has go base l (read (fault k)) e w s h =
        stopping base l (Unreadable (moved_by base k)) (λ j g. let same : j ≡ moved_by base k = cc in at_front base l k same s)
    after-frame-has go base l (read (one item f used)) e w s h =
        by_le (ListHas base l) (length l) used (λ g. tt)
        (λ g. before-has e g (go (base + used) (drop used l)) (h (base + used) (drop used l) (omega (arith, length-drop used l))))

    -- where the fault of each frame is as Has says, so is that of a list of them
    pub frames-has : ((b : ℕ) (m : List ℕ) → FrameIn (length m) (frame b m)) → ((b : ℕ) (m : List ℕ) → FrameHas (Has m) (frame b m))
        → (n base : ℕ) (l : List ℕ) → length l < n → ListHas base l (frames_at frame stop n base l)
    unfolding frames_at
    frames-has inside has zero base l h = absurd (omega arith)
    frames-has inside has (suc n) base l h =
        after-frame-has (λ b m. frames_at frame stop n b m) base l (frame base l) refl (inside base l) (has base l)
        (λ q m g. frames-has inside has n q m (omega arith))

-- and the one that `decode_tcp_vec` tells, in a frame that it reads
pub frame_field_short : ListFieldsShort
unfolding tcp_vec
frame_field_short msg limit table field at e =
    let rule : ℕ → List ℕ → Frame = λ b m. read_frame b m in
    let Has : List ℕ → Judgement → Type 0 = λ l. Judged (frame_fields l) l 0 in
    let list = frames-has rule Has refuses (λ base l r h k g. (base, h k g)) frame-in frame-judged (suc (length msg)) 0 msg (omega arith) in
    let w = subst (ListHas rule Has 0 msg) (read-refused tcp_vec (capacity table) limit msg e) list (Short field at) refl in
    (w.0, own-field rule Has FrameShort (λ m f b s. s) msg w.1)
