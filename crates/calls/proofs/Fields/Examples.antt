-- Examples, computed, that meet the hypotheses of `fields_short_udp`, `fields_short_tcp` and `frame_field_short`: document 01's P2 and P13,
-- a packet of one byte, a blob without its padding, and a list whose second prefix is cut; and of `cut_fields_short` and `cut_frame_short`:
-- a frame whose address ends only after the frame. What does not fit is refuted, and so is every field of P3, which is accepted.
use mathlib.Core.Path.{◌≡◌, refl}
use mathlib.Core.List.{List, [], ◌∷◌, ◌++◌}
use Prim.Native.Nat.{ℕ, ◌<◌}
use native.Mathlib.Omega.{arith}
use Rattle.refusal.specs.declared.Field.{Field}
use Rattle.refusal.specs.declared.Fault.TheVariants.{Short}
use Rattle.refusal.specs.declared.Field.TheVariants.{Address, TypeText, Data, Padding, Head}
use Rattle.refusal.specs.declared.Refusal.TheVariants.{Unreadable}
use Rattle.wire.specs.Number.{number}
use Rattle.node.specs.Forest.{size, depth, snoc}
use Rattle.node.specs.Tags.{class_of, sort_of}
use Rattle.text.specs.Text.{read_text}
use Rattle.argument.specs.Argument.{read_arg}
use Rattle.argument.specs.Dirt.{kept_padding, packets_padding}
use Rattle.arguments.specs.Arguments.{read_tags}
use Rattle.heads.specs.Heads.{size_of, prefix_of, length_of}
use Rattle.packet.specs.FirstText.{start_of}
use Rattle.packet.specs.Packet.{read_message, bundle_by, element_by, elements_by, packet_by, packet_at, read_packet}
use Rattle.framing.specs.Framing.{Whole, udp, read_frame, cut_frame, tcp, tcp2, frames_at, tcp_vec, tcp_vec2}
use Rattle.answering.specs.Limits.{decoded}
use Rattle.results.specs.Results.{Stopped}
use Rattle.std.specs.Prelude.{Err}
use Rattle.calls.specs.Demands.{answer_to}
use Rattle.calls.specs.Fields.{cut_here, PacketShort, FrameShort, CutShort, first_frame, next_frame, ListShort, FieldsShort}
use Rattle.calls.proofs.Room.Examples.{blank}
use Rattle.calls.proofs.Fields.Judged.{packet-judged}
use Rattle.calls.proofs.Fields.Told.{fields_short_udp, fields_short_tcp, frame_field_short}
use Rattle.calls.proofs.Fields.Cut.{cut_fields_short, cut_frame_short}
use Rattle.calls.proofs.Fields.One.{one_field_udp, one_field_tcp, one_field_list, one_field_cut, one_field_cut_list}

-- P2: 2F000000, with no type text
abbrev p2 : List ℕ
p2 = 0x2F ∷ 0 ∷ 0 ∷ 0 ∷ []

p2-refused : answer_to udp 64 p2 (blank 1) ≡ Err (Unreadable (Short TypeText 4))
unfolding number size depth snoc class_of sort_of read_text read_arg read_tags start_of size_of read_message bundle_by element_by elements_by packet_by
    packet_at read_packet udp decoded kept_padding packets_padding
p2-refused = refl

p2-short : PacketShort p2 TypeText 4
p2-short = fields_short_udp p2 64 (blank 1) TypeText 4 p2-refused

-- 2F610000 2C620000 00000001 61: a blob of one byte at 8, and no padding after it
abbrev bare-blob : List ℕ
bare-blob = 0x2F ∷ 0x61 ∷ 0 ∷ 0 ∷ 0x2C ∷ 0x62 ∷ 0 ∷ 0 ∷ 0 ∷ 0 ∷ 0 ∷ 1 ∷ 0x61 ∷ []

blob-refused : answer_to udp 64 bare-blob (blank 2) ≡ Err (Unreadable (Short Padding 13))
unfolding number size depth snoc class_of sort_of read_text read_arg read_tags start_of size_of read_message bundle_by element_by elements_by packet_by
    packet_at read_packet udp decoded kept_padding packets_padding
blob-refused = refl

blob-short : PacketShort bare-blob Padding 13
blob-short = fields_short_udp bare-blob 64 (blank 2) Padding 13 blob-refused

-- its data is all there
blob-not-data : PacketShort bare-blob Data 8 → ⊥
blob-not-data s = let w = (one_field_udp bare-blob Padding Data 13 8 blob-short s).1 in omega (arith, w)

-- 23: the first text is the address until it is known to be "#bundle"
abbrev lone : List ℕ
lone = 0x23 ∷ []

lone-refused : answer_to udp 64 lone (blank 1) ≡ Err (Unreadable (Short Address 0))
unfolding number size depth snoc class_of sort_of read_text read_arg read_tags start_of size_of read_message bundle_by element_by elements_by packet_by
    packet_at read_packet udp decoded kept_padding packets_padding
lone-refused = refl

lone-short : PacketShort lone Address 0
lone-short = fields_short_udp lone 64 (blank 1) Address 0 lone-refused

-- it is no type text, there or at 1, and no data
lone-not-types : (at : ℕ) → PacketShort lone TypeText at → ⊥
lone-not-types at s = let e = (one_field_udp lone Address TypeText 0 at lone-short s).0 in let z : ◌≡◌ {A = ℕ} 0 1 = cc in omega arith

-- so a decoder that told 18 there would not do what `fields_short_udp` says
lone-told-as-types : (rule : List ℕ → Whole) → answer_to rule 64 lone (blank 1) ≡ Err (Unreadable (Short TypeText 0))
    → FieldsShort rule PacketShort → ⊥
lone-told-as-types rule e f = lone-not-types 0 (f lone 64 (blank 1) TypeText 0 e)

lone-not-data : PacketShort lone Data 0 → ⊥
lone-not-data s = let e = (one_field_udp lone Address Data 0 0 lone-short s).0 in let z : ◌≡◌ {A = ℕ} 0 1 = cc in omega arith

-- P3: 2F610000 2C690000 00000005 is accepted
abbrev p3 : List ℕ
p3 = 0x2F ∷ 0x61 ∷ 0 ∷ 0 ∷ 0x2C ∷ 0x69 ∷ 0 ∷ 0 ∷ 0 ∷ 0 ∷ 0 ∷ 5 ∷ []

p3-whole : (field : Field) (at : ℕ) → PacketShort p3 field at → ⊥
unfolding number size depth snoc class_of sort_of read_text read_arg read_tags start_of size_of read_message bundle_by element_by elements_by packet_by
    packet_at read_packet
p3-whole = packet-judged 0 p3 0

-- P13: 00000008 2F610000
abbrev p13 : List ℕ
p13 = 0 ∷ 0 ∷ 0 ∷ 8 ∷ 0x2F ∷ 0x61 ∷ 0 ∷ 0 ∷ []

p13-refused : answer_to tcp 64 p13 (blank 1) ≡ Err (Unreadable (Short TypeText 8))
unfolding number size depth snoc class_of sort_of read_text read_arg read_tags start_of size_of prefix_of read_message bundle_by element_by
    elements_by packet_by packet_at read_packet read_frame tcp decoded kept_padding packets_padding
p13-refused = refl

p13-short : FrameShort p13 TypeText 8
p13-short = fields_short_tcp p13 64 (blank 1) TypeText 8 p13-refused

p13-only : (field : Field) (at : ℕ) → FrameShort p13 field at → (TypeText ≡ field) × (8 ≡ at)
p13-only field at s = one_field_tcp p13 TypeText field 8 at p13-short s

-- a frame, and a byte of the next one's prefix
abbrev cut_list : List ℕ
cut_list = 0 ∷ 0 ∷ 0 ∷ 8 ∷ 0x2F ∷ 0x61 ∷ 0 ∷ 0 ∷ 0 ∷ 0 ∷ 0 ∷ 0 ∷ 0 ∷ []

cut-refused : answer_to tcp_vec 64 cut_list (blank 1) ≡ Err (Unreadable (Short Head 12))
unfolding number size depth snoc class_of sort_of read_text read_arg read_tags start_of size_of prefix_of read_message bundle_by element_by
    elements_by packet_by packet_at read_packet read_frame frames_at tcp_vec decoded kept_padding packets_padding
cut-refused = refl

cut_short : (start : ℕ) × ListShort (λ b l. read_frame b l) FrameShort cut_list Head 12 start
cut_short = frame_field_short cut_list 64 (blank 1) Head 12 cut-refused

-- the second frame is the one, and no other
cut-second : ListShort (λ b l. read_frame b l) FrameShort cut_list Head 12 12
unfolding number size depth snoc class_of sort_of read_text read_arg read_tags start_of size_of prefix_of read_message bundle_by element_by
    elements_by packet_by packet_at read_packet read_frame
cut-second =
    let more : 12 < 13 = omega arith in
    let few : 1 < 4 = omega arith in
    record { from = 0 ∷ []; reached = next_frame refl more first_frame; own = 0; offset = refl; short = cut_here few }

cut-only : (start : ℕ) → ListShort (λ b l. read_frame b l) FrameShort cut_list Head 12 start → 12 ≡ start
cut-only start s = (one_field_list cut_list Head Head 12 12 12 start cut-second s).2

-- ---- edition 2

-- 00000004 2F616263, and a NUL only after the frame: 00000000
abbrev short-frame : List ℕ
short-frame = 0 ∷ 0 ∷ 0 ∷ 4 ∷ 0x2F ∷ 0x61 ∷ 0x62 ∷ 0x63 ∷ 0 ∷ 0 ∷ 0 ∷ 0 ∷ []

frame_refused : answer_to (tcp2 64) 64 short-frame (blank 1) ≡ Err (Unreadable (Short Address 4))
unfolding number size depth snoc class_of sort_of read_text read_arg read_tags start_of size_of length_of read_message bundle_by element_by elements_by
    packet_by packet_at read_packet cut_frame tcp2 decoded kept_padding packets_padding
frame_refused = refl

frame-short : CutShort short-frame Address 4
frame-short = cut_fields_short short-frame 64 (blank 1) Address 4 frame_refused

frame-only : (field : Field) (at : ℕ) → CutShort short-frame field at → (Address ≡ field) × (4 ≡ at)
frame-only field at s = one_field_cut short-frame Address field 4 at frame-short s

-- the same frame after a message: 00000008 2F610000 2C000000
abbrev stopping-list : List ℕ
stopping-list = (0 ∷ 0 ∷ 0 ∷ 8 ∷ 0x2F ∷ 0x61 ∷ 0 ∷ 0 ∷ 0x2C ∷ 0 ∷ 0 ∷ 0 ∷ []) ++ short-frame

list-stops : answer_to (tcp_vec2 64) 64 stopping-list (blank 1) ≡ Stopped 1 12 0 (Unreadable (Short Address 16)) 12
unfolding number size depth snoc class_of sort_of read_text read_arg read_tags start_of size_of length_of read_message bundle_by element_by elements_by
    packet_by packet_at read_packet cut_frame frames_at tcp_vec2 decoded kept_padding packets_padding
list-stops = refl

list-short : ListShort (λ b l. cut_frame 64 b l) CutShort stopping-list Address 16 12
list-short = cut_frame_short stopping-list 64 (blank 1) 1 12 0 Address 16 12 list-stops

list-only : (field : Field) (at start : ℕ) → ListShort (λ b l. cut_frame 64 b l) CutShort stopping-list field at start
    → (Address ≡ field) × (16 ≡ at) × (12 ≡ start)
list-only field at start s = one_field_cut_list 64 stopping-list Address field 16 at 12 start list-short s
