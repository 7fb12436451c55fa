-- A frame of edition 2 that is given has at least 12 bytes: its prefix, and of its packet an address and a type text, or "#bundle" and a
-- time tag, each of 4 bytes at least.
use mathlib.Core.Path.{◌≡◌, refl, subst, sym}
use mathlib.Core.List.{List}
use Prim.Native.Nat.{ℕ, ◌+◌, ◌%◌, ◌≤◌}
use native.Mathlib.Omega.{arith}
use lib.Dec.{leb}
use lib.ListN.{length, take, drop}
use Rattle.wire.proofs.Choices.{by-test, by-eq, by_le}
use Rattle.node.specs.Forest.{nil, node, depth}
use Rattle.node.specs.declared.record.Item.{Item}
use Rattle.text.specs.Text.{read_text}
use Rattle.heads.specs.Results.{Length}
use Rattle.packet.specs.Results.{Bundle, Message, Start}
use Rattle.std.specs.Prelude.{Err, Ok}
use Rattle.text.specs.Results.{Found, Text}
use Rattle.heads.specs.Results as cut
use Rattle.text.proofs.Within.{found-ends}
use Rattle.arguments.specs.Arguments.{Args, refused, args, read_args}
use Rattle.heads.specs.Heads.{tags_in, length_of, message_item, bundle_item}
use Rattle.packet.specs.FirstText.{start_of}
use Rattle.packet.specs.Packet.{Out, fault, one, Elements, upto, after, message_with, types_then, read_message, bundle_with, bundle_by}
use Rattle.packet.specs.Packet.{started_by, packet_by, read_packet, read_elements}
use Rattle.packet.proofs.FirstText.{message-text, bundle-text}
use Rattle.packet.proofs.Knot.{packet-eq}
use Rattle.framing.specs.Framing.{Frame, wait, read, wholly, cut_with, cut_frame}
use Rattle.framing.specs.Framing as cuts

-- what is read, if anything is, takes m bytes at least
abbrev AtLeast : ℕ → Out → Type 0
AtLeast m (fault k) = Unit {0}
AtLeast m (one item f u) = m ≤ u

-- after u bytes
after-long : (m n u : ℕ) (o : Out) → m ≤ u → AtLeast n o → AtLeast (m + n) (after u o)
after-long m n u (fault k) h w = tt
after-long m n u (one item f x) h w = omega arith

-- a text at a multiple of 4 takes 4 bytes at least, and ends at one
text-long : {n used : ℕ} (l : List ℕ) (p : ℕ) → p % 4 ≡ 0 → Found n used ≡ read_text l p → (4 ≤ used) × ((p + used) % 4 ≡ 0)
text-long l p h e = let w = found-ends l p e in (omega (arith, w.1), omega (arith, w.1))

arguments-long : (item : Item) (o : Args) → AtLeast 0 (message_with item o)
arguments-long item (refused k) = tt
arguments-long item (args f u) = omega arith

-- what follows an address: the type text
message-long : (base : ℕ) (item : Item) (l : List ℕ) (p : ℕ) → p % 4 ≡ 0 → AtLeast 4 (read_message base item l p)
unfolding read_message
message-long base item l p h = by-text (read_text l p) refl
  where
    by-text : (t : Text) → t ≡ read_text l p → AtLeast 4 (types_then base item l p t)
    by-text (Err k) e = tt
    by-text (Ok text) e =
        let o = read_args base (tags_in (take text.length l)) (drop text.used l) (p + text.used) in
        after-long 4 0 text.used (message_with item o) (text-long l p h e).0 (arguments-long item o)

-- what follows "#bundle": the time tag
bundle-long : (start : ℕ) (es : List ℕ → ℕ → Elements) (l : List ℕ) (p : ℕ) → AtLeast 4 (bundle_by start es l p)
unfolding bundle_by
bundle-long start es l p = by_le (AtLeast 4) 8 (length l) (λ _. by-elements (es (drop 8 l) (p + 8))) (λ _. tt)
  where
    by-elements : (x : Elements) → AtLeast 4 (bundle_with (bundle_item start l) x)
    by-elements (upto f u) = omega arith

-- a packet at a multiple of 4
packet-long : (base : ℕ) (l : List ℕ) (p : ℕ) → p % 4 ≡ 0 → AtLeast 8 (read_packet base l p)
unfolding packet_by
packet-long base l p h = subst (AtLeast 8) (sym (packet-eq base l p)) (by-start (start_of l p) refl)
  where
    by-start : (s : Start) → s ≡ start_of l p → AtLeast 8 (started_by base (λ m q. read_elements base m q) l p s)
    by-start (Message n used) e =
        let w = text-long l p h (message-text l p e) in
        let item = message_item (base + p) n in
        after-long 4 4 used (read_message base item (drop used l) (p + used)) w.0 (message-long base item (drop used l) (p + used) w.1)
    by-start (Bundle used) e =
        let w = text-long l p h (bundle-text l p e) in
        let o = bundle_by (base + p) (λ m q. read_elements base m q) (drop used l) (p + used) in
        after-long 4 4 used o w.0 (bundle-long (base + p) (λ m q. read_elements base m q) (drop used l) (p + used))
    by-start (Err k) e = tt

-- the bytes of a frame that is given
abbrev pub shortest_frame : ℕ
shortest_frame = 12

-- a frame, if it is given, takes so many bytes
abbrev pub FrameLong : Frame → Type 0
FrameLong wait = Unit {0}
FrameLong (read (fault k)) = Unit {0}
FrameLong (read (one item f u)) = shortest_frame ≤ u
FrameLong (cuts.refused k) = Unit {0}

whole_long : (limit n : ℕ) (o : Out) → AtLeast shortest_frame o → FrameLong (wholly limit n o)
whole_long limit n (fault k) h = tt
whole_long limit n (one item f u) h =
    by-eq FrameLong u n (λ _. by-test FrameLong (leb (depth (node item f nil)) limit) (λ _. h) (λ _. tt)) (λ _. tt)

-- every frame does
pub frame_long : (limit base : ℕ) (l : List ℕ) → FrameLong (cut_frame limit base l)
unfolding cut_frame
frame_long limit base l = by_length (length_of l)
  where
    by_length : (x : Length) → FrameLong (cut_with limit base l x)
    by_length (cut.Cuts n) =
        let o = read_packet base (take n (drop 4 l)) 4 in
        whole_long limit (4 + n) (after 4 o) (after-long 4 8 4 o (omega arith) (packet-long base (take n (drop 4 l)) 4 refl))
    by_length cut.Waiting = tt
    by_length cut.Over = tt
    by_length cut.Odd = tt
