-- Examples, computed: calls that meet the hypotheses of `more_bytes`, with a bundle that grows and with a message, and of `faults-stay`;
-- and lists, for which a refusal with 4 to 8 does not stay.
use mathlib.Core.Path.{◌≡◌, refl, sym, ◌∙◌}
use mathlib.Core.List.{List, [], ◌∷◌, ◌++◌}
use Prim.Native.Nat.{ℕ, ◌*◌, ◌≤◌}
use native.Mathlib.Omega.{arith}
use lib.ListN.{drop}
use Rattle.refusal.specs.declared.Fault.TheVariants.{Empty, Short, BadStart, UnknownTag}
use Rattle.refusal.specs.declared.Field.TheVariants.{TypeText}
use Rattle.refusal.specs.declared.Refusal.TheVariants.{Unreadable}
use Rattle.wire.specs.Number.{number}
use Rattle.node.specs.Forest.{size, depth, snoc}
use Rattle.node.specs.Tags.{class_of, sort_of}
use Rattle.text.specs.Text.{read_text}
use Rattle.argument.specs.Argument.{read_arg}
use Rattle.argument.specs.Dirt.{kept_padding, packets_padding, pads, AllZero}
use Rattle.arguments.specs.Arguments.{read_tags}
use Rattle.heads.specs.Heads.{size_of, prefix_of, length_of}
use Rattle.packet.specs.FirstText.{start_of}
use Rattle.packet.specs.Packet.{read_message, bundle_by, element_by, elements_by, packet_by, packet_at, read_packet}
use Rattle.framing.specs.Framing.{udp, read_frame, cut_frame, tcp, tcp2, frames_at, tcp_vec, tcp_vec2, rule_of}
use Rattle.edition.specs.declared.Edition.TheVariants.{Standard}
use Rattle.edition.specs.declared.Framing.TheVariants.{Tcp, TcpVec}
use Rattle.answering.specs.Limits.{decoded, forest_of}
use Rattle.results.specs.Results.{DecodeAnswer, Packets}
use Rattle.std.specs.Prelude.{Err}
use Rattle.calls.specs.Words.{Gives, Unlimited}
use Rattle.calls.specs.Demands.{answer_to, GoesOn, Stay, FaultsStay}
use Rattle.decoder.proofs.Answers.{no-packets}
use Rattle.table.proofs.Examples as p3
use Rattle.table.proofs.Examples.{empty, nested}
use Rattle.calls.proofs.Longer.MoreBytes.{more_bytes_udp, more_bytes_tcp}
use Rattle.calls.proofs.Longer.Stay.{frame_stays, list_stays}
use Rattle.calls.proofs.Soiled.{dirt_low, clean_only}
use Rattle.calls.proofs.Longer.Faults.{faults_stay_udp, faults_stay_tcp}
use Rattle.calls.proofs.Room.Examples.{blank, nested-answer}

unlimited : {r : DecodeAnswer} {count left dirty : ℕ} → r ≡ Packets count left dirty → Unlimited r
unlimited e =
    record {
      not_1 = λ p. let z : ◌≡◌ {A = ℕ} 0 1 = cc in omega arith;
      not_9 = λ p. let z : ◌≡◌ {A = ℕ} 0 1 = cc in omega arith;
      not_10 = λ p. let z : ◌≡◌ {A = ℕ} 0 1 = cc in omega arith;
      not_13 = λ p. let z : ◌≡◌ {A = ℕ} 0 1 = cc in omega arith;
    }

-- an element of 8 bytes with a message that has no arguments: 00000008 2F610000 2C000000
abbrev element : List ℕ
element = 0 ∷ 0 ∷ 0 ∷ 8 ∷ 0x2F ∷ 0x61 ∷ 0 ∷ 0 ∷ 0x2C ∷ 0 ∷ 0 ∷ 0 ∷ []

-- ---- a bundle with one element, a bundle, gets a second one

second-element : answer_to udp 2 (nested ++ element) (blank 8) ≡ Packets 8 0 0
unfolding number size depth snoc class_of sort_of read_text read_arg read_tags start_of size_of read_message bundle_by element_by elements_by packet_by
    packet_at read_packet udp decoded kept_padding packets_padding
second-element = refl

grown : GoesOn udp nested element 2 2 (blank 7) (blank 8) 7 0
grown = more_bytes_udp nested element 2 2 (blank 7) (blank 8) 7 0 0 (omega arith) (omega arith) nested-answer (unlimited second-element)

-- ---- a message is the same, and the bytes are left over

message : answer_to udp 0 p3.packet (blank 2) ≡ Packets 2 0 0
unfolding number size depth snoc class_of sort_of read_text read_arg read_tags start_of size_of read_message bundle_by element_by elements_by packet_by
    packet_at read_packet udp decoded kept_padding packets_padding
message = refl

message-more : answer_to udp 0 (p3.packet ++ element) (blank 2) ≡ Packets 2 12 0
unfolding number size depth snoc class_of sort_of read_text read_arg read_tags start_of size_of read_message bundle_by element_by elements_by packet_by
    packet_at read_packet udp decoded kept_padding packets_padding
message-more = refl

kept : GoesOn udp p3.packet element 0 0 (blank 2) (blank 2) 2 0
kept = more_bytes_udp p3.packet element 0 0 (blank 2) (blank 2) 2 0 0 (omega arith) (omega arith) message (unlimited message-more)

-- ---- a frame's bundle takes the next frame as an element

-- the prefix of a frame of 16 bytes
prefix : List ℕ
prefix = 0 ∷ 0 ∷ 0 ∷ 16 ∷ []

frame : answer_to tcp 1 (prefix ++ empty) (blank 1) ≡ Packets 1 0 0
unfolding prefix number size depth snoc class_of sort_of read_text read_arg read_tags start_of size_of prefix_of read_message bundle_by element_by
    elements_by packet_by packet_at read_packet read_frame tcp decoded kept_padding packets_padding
frame = refl

next_frame : answer_to tcp 2 ((prefix ++ empty) ++ element) (blank 2) ≡ Packets 2 0 0
unfolding prefix number size depth snoc class_of sort_of read_text read_arg read_tags start_of size_of prefix_of read_message bundle_by element_by
    elements_by packet_by packet_at read_packet read_frame tcp decoded kept_padding packets_padding
next_frame = refl

taken : GoesOn tcp (prefix ++ empty) element 1 2 (blank 1) (blank 2) 1 0
unfolding prefix
taken = more_bytes_tcp (prefix ++ empty) element 1 2 (blank 1) (blank 2) 1 0 0 (omega arith) (omega arith) frame (unlimited next_frame)

-- ---- a refusal with 7 stays, and 2 and 18 are mended

-- P8: 2F610000 2C780000, whose tag x is unknown
abbrev unknown : List ℕ
unknown = 0x2F ∷ 0x61 ∷ 0 ∷ 0 ∷ 0x2C ∷ 0x78 ∷ 0 ∷ 0 ∷ []

unknown-refused : answer_to udp 64 unknown (blank 1) ≡ Err (Unreadable UnknownTag)
unfolding number size depth snoc class_of sort_of read_text read_arg read_tags start_of size_of read_message bundle_by element_by elements_by packet_by
    packet_at read_packet udp decoded kept_padding packets_padding
unknown-refused = refl

still-unknown : answer_to udp 0 (unknown ++ element) (blank 2) ≡ Err (Unreadable UnknownTag)
still-unknown =
    faults_stay_udp unknown element 64 0 (blank 1) (blank 2) UnknownTag (λ m. m) (omega arith) (omega arith) unknown-refused

-- its frame
abbrev framed : List ℕ
framed = 0 ∷ 0 ∷ 0 ∷ 8 ∷ unknown

framed-refused : answer_to tcp 64 framed (blank 1) ≡ Err (Unreadable UnknownTag)
unfolding number size depth snoc class_of sort_of read_text read_arg read_tags start_of size_of prefix_of read_message bundle_by element_by
    elements_by packet_by packet_at read_packet read_frame tcp decoded kept_padding packets_padding
framed-refused = refl

still-framed : answer_to tcp 0 (framed ++ element) (blank 2) ≡ Err (Unreadable UnknownTag)
still-framed = faults_stay_tcp framed element 64 0 (blank 1) (blank 2) UnknownTag (λ m. m) (omega arith) (omega arith) framed-refused

-- P1, and P3 after it
none-mended : (answer_to udp 0 [] (blank 2) ≡ Err (Unreadable Empty)) × (answer_to udp 0 ([] ++ p3.packet) (blank 2) ≡ Packets 2 0 0)
unfolding number size depth snoc class_of sort_of read_text read_arg read_tags start_of size_of read_message bundle_by element_by elements_by packet_by
    packet_at read_packet udp decoded kept_padding packets_padding
none-mended = (refl, refl)

-- P2, and an empty type text after it
abbrev short : List ℕ
short = 0x2F ∷ 0 ∷ 0 ∷ 0 ∷ []

short-mended : (answer_to udp 0 short (blank 1) ≡ Err (Unreadable (Short TypeText 4)))
    × (answer_to udp 0 (short ++ (0 ∷ 0 ∷ 0 ∷ 0 ∷ [])) (blank 1) ≡ Packets 1 0 0)
unfolding number size depth snoc class_of sort_of read_text read_arg read_tags start_of size_of read_message bundle_by element_by elements_by packet_by
    packet_at read_packet udp decoded kept_padding packets_padding
short-mended = (refl, refl)

-- ---- lists, for which it is false

-- the shortest: after a bundle's frame 00000011 2F000000 00000000, an element that lacks a byte, and 00000000 00000000, refused with 5
abbrev third-refused : List ℕ
third-refused = (prefix ++ empty) ++ (0 ∷ 0 ∷ 0 ∷ 17 ∷ 0x2F ∷ 0 ∷ 0 ∷ 0 ∷ 0 ∷ 0 ∷ 0 ∷ 0 ∷ 0 ∷ 0 ∷ 0 ∷ 0 ∷ 0 ∷ 0 ∷ 0 ∷ 0 ∷ [])

third-as-list : answer_to tcp_vec 64 third-refused (blank 2) ≡ Err (Unreadable BadStart)
unfolding prefix number size depth snoc class_of sort_of read_text read_arg read_tags start_of size_of prefix_of read_message bundle_by element_by
    elements_by packet_by packet_at read_packet read_frame frames_at tcp_vec decoded kept_padding packets_padding
third-as-list = refl

-- with a byte appended the element is whole, and the bundle takes it
third-taken : answer_to tcp_vec 64 (third-refused ++ (0 ∷ [])) (blank 2) ≡ Packets 2 0 0
unfolding prefix number size depth snoc class_of sort_of read_text read_arg read_tags start_of size_of prefix_of read_message bundle_by element_by
    elements_by packet_by packet_at read_packet read_frame frames_at tcp_vec decoded kept_padding packets_padding
third-taken = refl

-- after an element of 9 bytes the second frame, 00000009 2F000000 2C780000, is itself refused, with 7
abbrev second-refused : List ℕ
second-refused =
    (prefix ++ empty) ++ (0 ∷ 0 ∷ 0 ∷ 9 ∷ 0x2F ∷ 0 ∷ 0 ∷ 0 ∷ 0 ∷ 0 ∷ 0 ∷ 0 ∷ 0
    ∷ 0 ∷ 0 ∷ 0 ∷ 9 ∷ 0x2F ∷ 0 ∷ 0 ∷ 0 ∷ 0x2C ∷ 0x78 ∷ 0 ∷ 0 ∷ [])

-- as an element it stands at another place, so that its address ends a byte earlier, and its type text is empty, with `,x` as padding
second-mended : (answer_to tcp_vec 64 second-refused (blank 3) ≡ Err (Unreadable UnknownTag))
    × (answer_to tcp_vec 64 (second-refused ++ (0 ∷ [])) (blank 3) ≡ Packets 3 0 2)
unfolding prefix number size depth snoc class_of sort_of read_text read_arg read_tags start_of size_of prefix_of read_message bundle_by element_by
    elements_by packet_by packet_at read_packet read_frame frames_at tcp_vec decoded kept_padding packets_padding
second-mended = (refl, refl)

-- so the statement is false of `decode_tcp_vec`
pub lists_may_mend : FaultsStay tcp_vec → ⊥
unfolding prefix
lists_may_mend stay =
    no-packets (sym third-taken
    ∙ stay third-refused (0 ∷ []) 64 64 (blank 2) (blank 2) BadStart (λ m. m) (omega arith) (omega arith) third-as-list)

-- ---- edition 2

-- a frame with "/a" in it, and the first bytes of another
abbrev slash : List ℕ
slash = 0 ∷ 0 ∷ 0 ∷ 8 ∷ 0x2F ∷ 0x61 ∷ 0 ∷ 0 ∷ 0x2C ∷ 0 ∷ 0 ∷ 0 ∷ []

abbrev begun : List ℕ
begun = slash ++ (0 ∷ 0 ∷ 0 ∷ 8 ∷ [])

one-given : Gives (answer_to (rule_of (TcpVec Standard) 0) 0 begun (blank 1)) 1 0
unfolding number size depth snoc class_of sort_of read_text read_arg read_tags start_of size_of length_of read_message bundle_by element_by
    elements_by packet_by packet_at read_packet cut_frame frames_at tcp_vec2 decoded kept_padding packets_padding
one-given = (refl, refl)

both-given : answer_to (rule_of (TcpVec Standard) 64) 64 (begun ++ drop 4 slash) (blank 2) ≡ Packets 2 0 0
unfolding number size depth snoc class_of sort_of read_text read_arg read_tags start_of size_of length_of read_message bundle_by element_by
    elements_by packet_by packet_at read_packet cut_frame frames_at tcp_vec2 decoded kept_padding packets_padding
both-given = refl

-- with the rest of the second frame, the first one's record stays
first-stays : Stay (TcpVec Standard) begun (drop 4 slash) 0 64 (blank 1) (blank 2) 1 0
first-stays =
    list_stays begun (drop 4 slash) 0 64 (blank 1) (blank 2) 1 0 (omega arith) one-given
    (record {
      no_1 = λ e. let p = both-given in let z : ◌≡◌ {A = ℕ} 0 1 = cc in omega arith;
      no_10 = λ e. let p = both-given in let z : ◌≡◌ {A = ℕ} 0 1 = cc in omega arith;
      no_13 = λ e. let p = both-given in let z : ◌≡◌ {A = ℕ} 0 1 = cc in omega arith;
    })

-- a frame whose address has a dirty byte of padding
abbrev soiled : List ℕ
soiled = 0 ∷ 0 ∷ 0 ∷ 8 ∷ 0x2F ∷ 0x61 ∷ 0 ∷ 9 ∷ 0x2C ∷ 0 ∷ 0 ∷ 0 ∷ []

frame-given : Gives (answer_to (rule_of (Tcp Standard) 0) 0 soiled (blank 1)) 1 1
unfolding number size depth snoc class_of sort_of read_text read_arg read_tags start_of size_of length_of read_message bundle_by element_by
    elements_by packet_by packet_at read_packet cut_frame tcp2 decoded kept_padding packets_padding
frame-given = (refl, refl)

again-given : answer_to (rule_of (Tcp Standard) 1) 1 (soiled ++ slash) (blank 2) ≡ Packets 1 12 1
unfolding number size depth snoc class_of sort_of read_text read_arg read_tags start_of size_of length_of read_message bundle_by element_by
    elements_by packet_by packet_at read_packet cut_frame tcp2 decoded kept_padding packets_padding
again-given = refl

-- with another frame after it and a higher limit, its record stays, and the one dirty byte
one-stays : Stay (Tcp Standard) soiled slash 0 1 (blank 1) (blank 2) 1 1
one-stays =
    frame_stays soiled slash 0 1 (blank 1) (blank 2) 1 1 (omega arith) frame-given
    (record {
      no_1 = λ e. let p = again-given in let z : ◌≡◌ {A = ℕ} 0 1 = cc in omega arith;
      no_10 = λ e. let p = again-given in let z : ◌≡◌ {A = ℕ} 0 1 = cc in omega arith;
      no_13 = λ e. let p = again-given in let z : ◌≡◌ {A = ℕ} 0 1 = cc in omega arith;
    })

-- ---- dirty padding

-- the frame has two texts, so that its dirt is at most 6; and as it is not 0, not every padding byte is
soiled-low : 1 ≤ 3 * pads (forest_of (rule_of (Tcp Standard) 0 soiled))
soiled-low = dirt_low (rule_of (Tcp Standard) 0) soiled (blank 1) 0 1 1 frame-given

soiled-not-clean : AllZero (packets_padding soiled (forest_of (rule_of (Tcp Standard) 0 soiled))) → ◌≡◌ {A = ℕ} 1 0
soiled-not-clean = (clean_only (rule_of (Tcp Standard) 0) soiled (blank 1) 0 1 1 frame-given).1
