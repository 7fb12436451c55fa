-- Examples, computed: what meets the contracts of the boundary and the hypotheses of its theorems, over the packets and tables of
-- crates/table/proofs/Examples.antt.
use mathlib.Core.Path.{◌≡◌, refl}
use mathlib.Core.List.{List, [], ◌∷◌, ◌++◌}
use Prim.Native.Nat.{ℕ, ◌≤◌, ◌<◌}
use native.Mathlib.Omega.{arith}
use lib.ListN.{get_or, replicate}
use Rattle.refusal.specs.declared.Fault.TheVariants.{NotUtf8}
use Rattle.refusal.specs.declared.Refusal.TheVariants.{TooLong, Unreadable, TableFull, BadTable}
use Rattle.wire.specs.Number.{number, bytes}
use Rattle.wire.specs.Pad.{pad_of}
use Rattle.node.specs.Forest.{size, depth, snoc}
use Rattle.node.specs.Records.{record_of, records_of, stored, kind_at, zeros_at, field_at, capacity}
use Rattle.node.specs.Rules.{own_rules}
use Rattle.node.specs.Tags.{class_of, sort_of}
use Rattle.values.specs.Value.{bare_of, narrow_of, value_by}
use Rattle.values.specs.Look.{look_at, started_at}
use Rattle.text.specs.Text.{read_text}
use Rattle.argument.specs.Dirt.{kept_padding, packets_padding}
use Rattle.argument.specs.Argument.{read_arg}
use Rattle.arguments.specs.Arguments.{read_tags}
use Rattle.packet.specs.Packet.{read_message, bundle_by, element_by, elements_by, packet_by, packet_at, read_packet}
use Rattle.heads.specs.Heads.{size_of, prefix_of, length_of}
use Rattle.packet.specs.FirstText.{start_of}
use Rattle.framing.specs.Framing.{udp, read_frame, cut_frame, tcp, tcp2, frames_at, tcp_vec, tcp_vec2}
use Rattle.answering.specs.Limits.{decoded}
use Rattle.edition.specs.declared.Edition.TheVariants.{Rosc, Standard}
use Rattle.edition.specs.declared.Framing.TheVariants.{Udp, Tcp, TcpVec}
use Rattle.results.specs.Results.{Encoded}
use Rattle.std.specs.Prelude.{Err, Ok}
use Rattle.results.specs.Results as results
use Rattle.strings.specs.Atomic.{osc_string, osc_blob}
use Rattle.writers.specs.Osc as osc
use Rattle.encoder.specs.Outcome.{unframed, framed_by, prefixed, bytes_outcome, tree_outcome, malformed, formed, string_outcome}
use Rattle.decoder.proofs.Only.{decodes-met}
use Rattle.table.proofs.Examples as p3
use Rattle.told.specs.Told.{unpack}
use Rattle.told.specs.Answers.{decoded_told, portion_told, encoded_told}
use Rattle.apart.specs.CContracts.{in_high_bits, CEnds}
use Rattle.apart.specs.Boundary.{osc_decode, osc_read_portion, osc_encode, osc_encode_string, osc_pad, osc_look, osc_start}
use Rattle.apart.specs.Boundary.{c_contract_of, CMeets, StopTold, EndTold}
use Rattle.apart.specs.ReadBack.{WaitingTold, ReadBack, StepBack}
use Rattle.apart.proofs.Boundary.{ends_listed, refusals_apart, stops_apart, ends_apart, c_settled}
use Rattle.apart.proofs.Once.{decoded_apart, decoded_once, decoded_alone, refusal_told, tcp_none_waits, portion_apart, step_told}
use Rattle.apart.proofs.Once.{step_once, told_apart, string_told_apart, encoded_once, pad_once}

-- a lent buffer of n bytes
abbrev nines : ℕ → List ℕ
nines n = replicate n 9

-- ---- decoders

-- P1: refusal 2, and any table is as it was
p1 : (table : List ℕ) → CMeets (osc_decode Udp [] table 64) 0x200_0000_0000_0000 0 table
unfolding packet_at read_packet udp decoded kept_padding packets_padding
p1 table = record { answer = _; meets = decodes-met; number = refl; beside = refl }

-- P2: the type text at 4 is short, which is 18 at 4, and any table is as it was
p2 : (table : List ℕ) → CMeets (osc_decode Udp (0x2F ∷ 0 ∷ 0 ∷ 0 ∷ []) table 64) 0x1200_0000_0000_0000 0x4_0000_0000 table
unfolding read_text start_of read_message packet_by packet_at read_packet udp decoded kept_padding packets_padding
p2 table = record { answer = _; meets = decodes-met; number = refl; beside = refl }

-- P14's bytes, a frame that is not all there
abbrev unready : List ℕ
unready = 0 ∷ 0 ∷ 0 ∷ 9 ∷ 0x2F ∷ 0x61 ∷ 0 ∷ 0 ∷ []

-- `osc_decode_tcp` waits: 8, and any table is as it was
p14 : (table : List ℕ) → CMeets (osc_decode (Tcp Rosc) unready table 64) 8 0 table
unfolding number prefix_of read_frame tcp decoded kept_padding packets_padding
p14 table = record { answer = _; meets = decodes-met; number = refl; beside = refl }

-- `osc_decode_tcp_vec` tells 8 too, which are no packets there
no-packets : (CMeets (osc_decode (TcpVec Rosc) unready (nines 17) 64) 8 0 (nines 17))
    × (decoded tcp_vec (capacity (nines 17)) 64 unready ≡ results.Packets 0 8 0)
unfolding size depth number prefix_of read_frame tcp_vec frames_at decoded stored records_of kept_padding packets_padding
no-packets = (record { answer = _; meets = decodes-met; number = refl; beside = refl }, refl)

-- a message of one record, after a length that cuts nothing
message : CMeets (osc_decode (Tcp Rosc) (0 ∷ 0 ∷ 0 ∷ 0 ∷ 0x2F ∷ 0x61 ∷ 0 ∷ 0 ∷ 0 ∷ 0 ∷ 0 ∷ 0 ∷ []) (nines 21) 64) 0x1_0000_0000 0
    (0x2F ∷ 0 ∷ 0 ∷ 0 ∷ 0 ∷ 0 ∷ 0 ∷ 1 ∷ 0 ∷ 0 ∷ 0 ∷ 4 ∷ 0 ∷ 0 ∷ 0 ∷ 2 ∷ 0 ∷ 0 ∷ 0 ∷ 4 ∷ 9 ∷ [])
unfolding size depth number bytes read_text read_tags start_of prefix_of read_message packet_by packet_at read_packet read_frame tcp decoded
    stored records_of record_of kept_padding packets_padding
message = record { answer = _; meets = decodes-met; number = refl; beside = refl }

-- a bundle in a bundle: seven records, and nothing left
nested : CMeets (osc_decode Udp p3.nested (nines 141) 2) 0x7_0000_0000 0 (p3.nested-table ++ (9 ∷ []))
unfolding size depth snoc number bytes class_of sort_of read_text read_arg read_tags start_of size_of read_message bundle_by element_by elements_by
    packet_by packet_at read_packet udp decoded stored records_of record_of p3.nested-table kept_padding packets_padding
nested = record { answer = _; meets = decodes-met; number = refl; beside = refl }

-- the hypotheses of `ends_listed` and of `refusals_apart`: `osc_pad` tells no answer as it tells 14
ends : CEnds (c_contract_of (osc_decode Udp p3.nested (nines 141) 2)) 0x7_0000_0000 0 (p3.nested-table ++ (9 ∷ []))
ends = ends_listed (osc_decode Udp p3.nested (nines 141) 2) _ _ _ nested

no_answer : (c_contract_of (osc_pad 5)).Answered 14 → ⊥
no_answer = refusals_apart (osc_pad 5) 14 refl

-- the hypotheses of `tcp_none_waits`, `decoded_once` and `decoded_apart`
waits : (table : List ℕ) → WaitingTold Rosc unready table 64 8 0 table
waits table = tcp_none_waits Rosc unready table 64 8 0 table (p14 table) refl refl

once : (p14 []).answer ≡ (p14 (nines 17)).answer
once = decoded_once (Tcp Rosc) unready unready [] (nines 17) 64 64 8 0 [] (nines 17) (p14 []) (p14 (nines 17))

-- the hypotheses of `decoded_alone`: 2 is told of no other answer
alone : (p1 []).answer ≡ (p1 (nines 17)).answer
alone =
    decoded_alone Udp [] [] [] (nines 17) 64 64 0x200_0000_0000_0000 0 0 [] (nines 17) (omega arith) (λ h. omega arith) (λ _. refl) (p1 [])
    (p1 (nines 17))

apart : (t : CMeets (osc_decode (Tcp Rosc) unready [] 64) 8 0 []) → unpack 8 0 ≡ decoded_told 8 t.answer
apart t = decoded_apart (Tcp Rosc) unready [] 64 8 0 [] t

-- ---- decoders of edition 2

-- three bytes, of which `osc_decode_tcp2` waits, and which are no packets of `osc_decode_tcp_vec2`
abbrev three : List ℕ
three = 0 ∷ 0 ∷ 0 ∷ []

waits2 : (table : List ℕ) → CMeets (osc_decode (Tcp Standard) three table 64) 3 0 table
unfolding number length_of cut_frame tcp2 decoded kept_padding packets_padding
waits2 table = record { answer = _; meets = decodes-met; number = refl; beside = refl }

no-packets2 : CMeets (osc_decode (TcpVec Standard) three (nines 17) 64) 3 0 (nines 17)
unfolding size depth number length_of cut_frame tcp_vec2 frames_at decoded stored records_of kept_padding packets_padding
no-packets2 = record { answer = _; meets = decodes-met; number = refl; beside = refl }

-- a message of one record, and the length of a frame that is too long
abbrev stopping : List ℕ
stopping = 0 ∷ 0 ∷ 0 ∷ 8 ∷ 0x2F ∷ 0x61 ∷ 0 ∷ 0 ∷ 0x2C ∷ 0 ∷ 0 ∷ 0 ∷ 0 ∷ 0 ∷ 0xFF ∷ 0xFC ∷ []

-- its record, in 21 bytes
abbrev one-record : List ℕ
one-record = 0x2F ∷ 0 ∷ 0 ∷ 0 ∷ 0 ∷ 0 ∷ 0 ∷ 1 ∷ 0 ∷ 0 ∷ 0 ∷ 4 ∷ 0 ∷ 0 ∷ 0 ∷ 2 ∷ 0 ∷ 0 ∷ 0 ∷ 4 ∷ 9 ∷ []

-- the list stops: 1 record, refusal 1, 4 bytes left, the frame at 12
stops : CMeets (osc_decode (TcpVec Standard) stopping (nines 21) 64) 0x100_0001_0000_0004 0xC_0000_0000_0000 one-record
unfolding size depth number bytes read_text read_tags start_of length_of read_message packet_by packet_at read_packet cut_frame tcp_vec2 frames_at
    decoded stored records_of record_of kept_padding packets_padding
stops = record { answer = _; meets = decodes-met; number = refl; beside = refl }

-- without room for the record the whole call is refused, with 10
full : CMeets (osc_decode (TcpVec Standard) stopping [] 64) 0xA00_0000_0000_0000 0 []
unfolding size depth number bytes read_text read_tags start_of length_of read_message packet_by packet_at read_packet cut_frame tcp_vec2 frames_at
    decoded kept_padding packets_padding
full = record { answer = _; meets = decodes-met; number = refl; beside = refl }

-- every number at once: 1 record with 2 bytes of dirty padding, 17 for the address at 16, the frame at 12 and 8 bytes left
short-address : CMeets (osc_decode (TcpVec Standard)
    (0 ∷ 0 ∷ 0 ∷ 8 ∷ 0x2F ∷ 0x61 ∷ 0 ∷ 1 ∷ 0x2C ∷ 0 ∷ 0 ∷ 1 ∷ 0 ∷ 0 ∷ 0 ∷ 4 ∷ 0x2F ∷ 0x61 ∷ 0x62 ∷ 0x63 ∷ []) (nines 21) 64)
    0x1100_0001_0000_0008 0xC_0010_0000_0002 one-record
unfolding size depth number bytes read_text read_tags start_of length_of read_message packet_by packet_at read_packet cut_frame tcp_vec2 frames_at
    decoded stored records_of record_of kept_padding packets_padding
short-address = record { answer = _; meets = decodes-met; number = refl; beside = refl }

-- the hypotheses of `tcp_none_waits`, `ends_listed`, `stops_apart`, `decoded_once`, `decoded_alone` and `decoded_apart` in edition 2
waiting2 : (table : List ℕ) → WaitingTold Standard three table 64 3 0 table
waiting2 table = tcp_none_waits Standard three table 64 3 0 table (waits2 table) refl refl

ends2 : CEnds (c_contract_of (osc_decode (TcpVec Standard) stopping (nines 21) 64)) 0x100_0001_0000_0004 0xC_0000_0000_0000 one-record
ends2 = ends_listed (osc_decode (TcpVec Standard) stopping (nines 21) 64) _ _ _ stops

stopped : StopTold (TcpVec Standard) 16 0x100_0001_0000_0004 0xC_0000_0000_0000
stopped = record { listed = refl; left = omega arith; from = refl; field = λ _. refl }

no_refusal : (n : ℕ) → 0x100_0001_0000_0004 ≡ in_high_bits n → ⊥
no_refusal = (stops_apart (TcpVec Standard) 16 0x100_0001_0000_0004 0xC_0000_0000_0000 stopped).1

once2 : (t : CMeets (osc_decode (TcpVec Standard) stopping (nines 21) 64) 0x100_0001_0000_0004 0xC_0000_0000_0000 one-record)
    → t.answer ≡ results.Stopped 1 4 0 TooLong 12
unfolding stops
once2 t =
    decoded_once (TcpVec Standard) stopping stopping (nines 21) (nines 21) 64 64 0x100_0001_0000_0004 0xC_0000_0000_0000 one-record
    one-record t stops

alone2 : (more : ℕ) (t : CMeets (osc_decode (TcpVec Standard) stopping [] 64) 0xA00_0000_0000_0000 more [])
    → t.answer ≡ Err TableFull
unfolding full
alone2 more t =
    decoded_alone (TcpVec Standard) stopping stopping [] [] 64 64 0xA00_0000_0000_0000 more 0 [] [] (omega arith) (λ h. omega arith)
    (λ _. refl) t full

apart2 : unpack 0x100_0001_0000_0004 0xC_0000_0000_0000 ≡ decoded_told 16 stops.answer
apart2 = decoded_apart (TcpVec Standard) stopping (nines 21) 64 0x100_0001_0000_0004 0xC_0000_0000_0000 one-record stops

-- the hypotheses of `refusal_told`, of a list that stops and of a refused call: both have a refusal's number, and 4 and 0 bytes left
read-stop : ReadBack stops.answer 0x100_0001_0000_0004 0xC_0000_0000_0000
read-stop = refusal_told (TcpVec Standard) stopping (nines 21) 64 0x100_0001_0000_0004 0xC_0000_0000_0000 one-record (omega arith) stops

read-refusal : ReadBack full.answer 0xA00_0000_0000_0000 0
read-refusal = refusal_told (TcpVec Standard) stopping [] 64 0xA00_0000_0000_0000 0 [] (omega arith) full

-- ---- the step over a stream

-- a message of one record, and the first bytes of what comes next
abbrev unfinished : List ℕ
unfinished = 0 ∷ 0 ∷ 0 ∷ 8 ∷ 0x2F ∷ 0x61 ∷ 0 ∷ 0 ∷ 0x2C ∷ 0 ∷ 0 ∷ 0 ∷ 0 ∷ 0 ∷ 0 ∷ []

-- 1 record, and 12 bytes used: three are to be kept
reads : CMeets (osc_read_portion unfinished (nines 21) 64) 0x1_0000_000C 0 one-record
unfolding size depth number bytes read_text read_tags start_of length_of read_message packet_by packet_at read_packet cut_frame tcp_vec2 frames_at
    decoded stored records_of record_of kept_padding packets_padding
reads = record { answer = _; meets = record { answers = refl; leaves = refl }; number = refl; beside = refl }

-- the same before the length of a frame that is too long, which ends the stream: 1 stands beside it
ends-stream : CMeets (osc_read_portion stopping (nines 21) 64) 0x1_0000_000C 0x1_0000_0000_0000 one-record
unfolding size depth number bytes read_text read_tags start_of length_of read_message packet_by packet_at read_packet cut_frame tcp_vec2 frames_at
    decoded stored records_of record_of kept_padding packets_padding
ends-stream = record { answer = _; meets = record { answers = refl; leaves = refl }; number = refl; beside = refl }

-- every number at once: 1 record with 2 bytes of dirty padding, 12 bytes used, and 17 for the address at 16 of the frame after them
ends-short : CMeets (osc_read_portion
    (0 ∷ 0 ∷ 0 ∷ 8 ∷ 0x2F ∷ 0x61 ∷ 0 ∷ 1 ∷ 0x2C ∷ 0 ∷ 0 ∷ 1 ∷ 0 ∷ 0 ∷ 0 ∷ 4 ∷ 0x2F ∷ 0x61 ∷ 0x62 ∷ 0x63 ∷ []) (nines 21) 64)
    0x1_0000_000C 0x11_0010_0000_0002 one-record
unfolding size depth number bytes read_text read_tags start_of length_of read_message packet_by packet_at read_packet cut_frame tcp_vec2 frames_at
    decoded stored records_of record_of kept_padding packets_padding
ends-short = record { answer = _; meets = record { answers = refl; leaves = refl }; number = refl; beside = refl }

-- without room for the record the call is refused, with 10
no_room : CMeets (osc_read_portion stopping [] 64) 0xA00_0000_0000_0000 0 []
unfolding size depth number bytes read_text read_tags start_of length_of read_message packet_by packet_at read_packet cut_frame tcp_vec2 frames_at
    decoded kept_padding packets_padding
no_room = record { answer = _; meets = record { answers = refl; leaves = refl }; number = refl; beside = refl }

-- the hypotheses of `ends_listed`, `ends_apart`, `step_told`, `step_once`, `portion_apart` and `c_settled` of steps
ends3 : CEnds (c_contract_of (osc_read_portion stopping (nines 21) 64)) 0x1_0000_000C 0x1_0000_0000_0000 one-record
ends3 = ends_listed (osc_read_portion stopping (nines 21) 64) _ _ _ ends-stream

stopped3 : EndTold 16 0x1_0000_000C 0x1_0000_0000_0000
stopped3 = record { listed = refl; accepted = omega arith; used = omega arith; field = λ _. refl }

no-refusal3 : (n : ℕ) → 1 ≤ n → 0x1_0000_000C ≡ in_high_bits n → ⊥
no-refusal3 = (ends_apart 16 0x1_0000_000C 0x1_0000_0000_0000 stopped3).1

read_step : StepBack reads.answer 0x1_0000_000C 0
read_step = step_told unfinished (nines 21) 64 0x1_0000_000C 0 one-record reads

read-end : StepBack ends-stream.answer 0x1_0000_000C 0x1_0000_0000_0000
read-end = step_told stopping (nines 21) 64 0x1_0000_000C 0x1_0000_0000_0000 one-record ends-stream

read-no-room : StepBack no_room.answer 0xA00_0000_0000_0000 0
read-no-room = step_told stopping [] 64 0xA00_0000_0000_0000 0 [] no_room

once3 : (t : CMeets (osc_read_portion stopping (nines 21) 64) 0x1_0000_000C 0x1_0000_0000_0000 one-record)
    → t.answer ≡ results.Ended 1 12 0 TooLong
unfolding ends-stream
once3 t =
    step_once stopping stopping (nines 21) (nines 21) 64 64 0x1_0000_000C 0x1_0000_0000_0000 one-record one-record t ends-stream

apart3 : unpack 0x1_0000_000C 0x1_0000_0000_0000 ≡ portion_told ends-stream.answer
apart3 = portion_apart stopping (nines 21) 64 0x1_0000_000C 0x1_0000_0000_0000 one-record ends-stream

reads_only : (told more : ℕ) (after : List ℕ) → CMeets (osc_read_portion unfinished (nines 21) 64) told more after
    → (told ≡ 0x1_0000_000C) × (more ≡ 0) × (after ≡ one-record)
reads_only told more after m = c_settled (osc_read_portion unfinished (nines 21) 64) told 0x1_0000_000C more 0 after _ m reads

-- ---- encoders

-- a table with a wrong end: refusal 11, and any output is as it was
wrong-end : (out : List ℕ) → CMeets (osc_encode unframed (p3.table 2 3) 2 p3.packet out) 0xB00_0000_0000_0000 0 out
wrong-end out = record { answer = Err BadTable; meets = malformed p3.wrong-end refl; number = refl; beside = refl }

-- P3's table in a stream: 16 bytes
stream : CMeets (osc_encode prefixed (p3.table 2 2) 2 p3.packet (nines 17)) 16 0 ((0 ∷ 0 ∷ 0 ∷ 12 ∷ []) ++ (p3.packet ++ (9 ∷ [])))
unfolding bytes depth class_of sort_of osc_string osc.write_data osc.write_tags osc.write_message osc.write_packet bytes_outcome tree_outcome
stream = record { answer = Ok 16; meets = formed p3.message p3.five p3.p3-tree refl; number = refl; beside = refl }

-- the bundle in a bundle in a stream of edition 2: its length stands before it
stream2 : CMeets (osc_encode (framed_by Standard) p3.nested-table 7 p3.nested (nines 81)) 80 0
    ((0 ∷ 0 ∷ 0 ∷ 76 ∷ []) ++ (p3.nested ++ (9 ∷ [])))
unfolding bytes depth class_of sort_of osc_string osc_blob osc.write_data osc.write_tags osc.write_message osc.write_bundle osc.write_elements
    osc.write_packet bytes_outcome tree_outcome
stream2 = record { answer = Ok 80; meets = formed (p3.once 0) (p3.within 0) p3.nested-tree refl; number = refl; beside = refl }

-- a text that is not UTF-8: refusal 4, and any output is as it was
not-utf8 : (out : List ℕ) → CMeets (osc_encode_string (0xFF ∷ []) out) 0x400_0000_0000_0000 0 out
unfolding string_outcome
not-utf8 out = record { answer = Err (Unreadable NotUtf8); meets = refl; number = refl; beside = refl }

-- the bundle in a bundle: its own 76 bytes
written : CMeets (osc_encode unframed p3.nested-table 7 p3.nested (nines 77)) 76 0 (p3.nested ++ (9 ∷ []))
unfolding bytes depth class_of sort_of osc_string osc_blob osc.write_data osc.write_tags osc.write_message osc.write_bundle osc.write_elements
    osc.write_packet bytes_outcome tree_outcome
written = record { answer = Ok 76; meets = formed (p3.once 0) (p3.within 0) p3.nested-tree refl; number = refl; beside = refl }

-- the text é: 4 bytes
text : CMeets (osc_encode_string (0xC3 ∷ 0xA9 ∷ []) (nines 5)) 4 0 (0xC3 ∷ 0xA9 ∷ 0 ∷ 0 ∷ 9 ∷ [])
unfolding osc_string bytes_outcome string_outcome
text = record { answer = Ok 4; meets = refl; number = refl; beside = refl }

-- the hypotheses of `c_settled`: no other number and no other bytes
written-only : (told more : ℕ) (after : List ℕ) → CMeets (osc_encode unframed p3.nested-table 7 p3.nested (nines 77)) told more after
    → (told ≡ 76) × (more ≡ 0) × (after ≡ p3.nested ++ (9 ∷ []))
written-only told more after m = c_settled (osc_encode unframed p3.nested-table 7 p3.nested (nines 77)) told 76 more 0 after _ m written

stream-only : (told more : ℕ) (after : List ℕ) → CMeets (osc_encode prefixed (p3.table 2 2) 2 p3.packet (nines 17)) told more after
    → (told ≡ 16) × (more ≡ 0) × (after ≡ (0 ∷ 0 ∷ 0 ∷ 12 ∷ []) ++ (p3.packet ++ (9 ∷ [])))
stream-only told more after m = c_settled (osc_encode prefixed (p3.table 2 2) 2 p3.packet (nines 17)) told 16 more 0 after _ m stream

stream2-only : (told more : ℕ) (after : List ℕ)
    → CMeets (osc_encode (framed_by Standard) p3.nested-table 7 p3.nested (nines 81)) told more after
    → (told ≡ 80) × (more ≡ 0) × (after ≡ (0 ∷ 0 ∷ 0 ∷ 76 ∷ []) ++ (p3.nested ++ (9 ∷ [])))
stream2-only told more after m =
    c_settled (osc_encode (framed_by Standard) p3.nested-table 7 p3.nested (nines 81)) told 80 more 0 after _ m stream2

text-only : (told more : ℕ) (after : List ℕ) → CMeets (osc_encode_string (0xC3 ∷ 0xA9 ∷ []) (nines 5)) told more after
    → (told ≡ 4) × (more ≡ 0) × (after ≡ 0xC3 ∷ 0xA9 ∷ 0 ∷ 0 ∷ 9 ∷ [])
text-only told more after m = c_settled (osc_encode_string (0xC3 ∷ 0xA9 ∷ []) (nines 5)) told 4 more 0 after _ m text

-- the hypotheses of `told_apart`, `string_told_apart` and `encoded_once`
text-apart : unpack 4 0 ≡ encoded_told text.answer
text-apart = string_told_apart (0xC3 ∷ 0xA9 ∷ []) (nines 5) 4 0 _ text

taken-apart : unpack 16 0 ≡ encoded_told (Ok 16)
unfolding stream
taken-apart = told_apart prefixed (p3.table 2 2) 2 p3.packet (nines 17) 16 0 _ stream

sixteen : (a : Encoded) → unpack 16 0 ≡ encoded_told a → a ≡ Ok 16
sixteen a p = encoded_once 16 0 a (Ok 16) (λ h. omega arith) p taken-apart

-- ---- `osc_pad`, `osc_look` and `osc_start`

-- the next multiple of 4; none after the last
next : CMeets (osc_pad 5) 8 0 []
next = (refl, refl, refl)

last : CMeets (osc_pad 0xffff_ffff_ffff_ffff) 14 0 []
last = (refl, refl, refl)

-- 5 and 6 have one multiple, as `pad_once` asks
five-six : pad_of 5 ≡ pad_of 6
five-six = pad_once 5 6 refl

-- the kind of a double that is no number; none of an empty table
kind : CMeets (osc_look p3.nested-table 6) 100 0 []
unfolding p3.nested-table number bytes size record_of records_of kind_at zeros_at field_at own_rules class_of sort_of bare_of narrow_of value_by look_at
kind = (refl, refl, refl)

no_record : CMeets (osc_look [] 0) 0xB00_0000_0000_0000 0 []
unfolding look_at
no_record = (refl, refl, refl)

-- the blob's size begins at 56, and a record that does not exist nowhere
nested-small : (i : ℕ) → get_or p3.nested-table i 0 < 256
unfolding p3.nested-table bytes size record_of records_of
nested-small = p3.small_bytes p3.nested-table tt

start : CMeets (osc_start p3.nested-table nested-small 4) 56 0 []
unfolding p3.nested-table number bytes size record_of records_of field_at started_at
start = (refl, refl, refl)

no_start : CMeets (osc_start [] (λ i. omega arith) 0) 0xB00_0000_0000_0000 0 []
unfolding started_at
no_start = (refl, refl, refl)
