-- Examples, computed: endings that meet the contracts, with refusals, Waiting and results, and so the hypotheses of `listed`, `settled`
-- and `nothing_changed`.
use mathlib.Core.Path.{◌≡◌, refl, sym, ap, subst}
use mathlib.Core.Bool.{true}
use mathlib.Core.List.{List, [], ◌∷◌, ◌++◌}
use Prim.Native.Nat.{ℕ}
use lib.Ieee.{nan, of_bits}
use lib.ListN.{replicate}
use Rattle.refusal.specs.declared.Fault.TheVariants.{Empty}
use Rattle.refusal.specs.declared.Refusal.TheVariants.{Unreadable, BadTable, OutputShort, PadOverflow}
use Rattle.wire.specs.Number.{number, bytes}
use Rattle.results.specs.Results.{DecodeAnswer, Differs, Encoded}
use Rattle.std.specs.Prelude.{Err, Ok}
use Rattle.results.specs.Results as decodes
use Rattle.node.specs.Forest.{size, depth, snoc}
use Rattle.node.specs.Records.{record_of, records_of, kind_at, zeros_at, field_at}
use Rattle.node.specs.Rules.{own_rules}
use Rattle.node.specs.Tags.{among, class_of, sort_of}
use Rattle.values.specs.Value.{value_by}
use Rattle.values.specs.Look.{look_at}
use Rattle.values.specs.declared.value.OscType.TheVariants.{Blob, Double}
use Rattle.text.specs.Text.{read_text}
use Rattle.argument.specs.Argument.{read_arg}
use Rattle.arguments.specs.Arguments.{read_tags}
use Rattle.heads.specs.Heads.{prefix_of, length_of}
use Rattle.packet.specs.FirstText.{start_of}
use Rattle.packet.specs.Packet.{read_message, packet_by, packet_at, read_packet}
use Rattle.edition.specs.declared.Edition.TheVariants.{Rosc}
use Rattle.framing.specs.Framing.{udp, read_frame, cut_frame, tcp, tcp_vec}
use Rattle.edition.specs.declared.Framing.TheVariants.{Udp, Tcp, TcpVec}
use Rattle.answering.specs.Limits.{decode_order, decoded, forest_of, tabled}
use Rattle.folding.specs.Folding.{fold_at}
use Rattle.cues.specs.Cues.{entry_of}
use Rattle.cues.specs.Checks.{compared_at}
use Rattle.strings.specs.Atomic.{osc_string, osc_blob}
use Rattle.writers.specs.Osc as osc
use Rattle.encoder.specs.Outcome.{bytes_outcome, tree_outcome, malformed, formed}
use Rattle.contract.specs.Endings.{by_encoded}
use Rattle.contract.specs.Contract.{Fruitless}
use Rattle.calls.specs.Calls.{Meets, decode, index_step, compare, cue_at, encode, pad, look, text_of}
use Rattle.calls.specs.Demands.{table_after}
use Rattle.table.proofs.Examples as p3
use Rattle.calls.proofs.Calls.Every.{settled, listed, nothing_changed}
use Rattle.calls.proofs.Room.Examples.{blank, two-answer}

-- P1: no bytes are refused with 2, and any table is as it was
p1 : (table : List ℕ) → Meets (decode Udp [] table 64) (Err (Unreadable Empty)) table
unfolding packet_at read_packet udp decoded
p1 table = record { answered = refl; left = refl }

-- P14: 00000009 2F610000 is not all there
p14 : (table : List ℕ)
    → Meets (decode (Tcp Rosc) (0 ∷ 0 ∷ 0 ∷ 9 ∷ 0x2F ∷ 0x61 ∷ 0 ∷ 0 ∷ []) table 64) decodes.Waiting table
unfolding number prefix_of read_frame tcp decoded
p14 table = record { answered = refl; left = refl }

-- a table with a wrong end is refused with 11, whatever the output
wrong-end : (out : List ℕ) → Meets (encode (p3.table 2 3) 2 p3.packet out) (Err BadTable) out
wrong-end out = malformed p3.wrong-end refl

-- P3's table encodes to P3's packet; one byte less is refused with 12
eleven : List ℕ
eleven = 1 ∷ 2 ∷ 3 ∷ 4 ∷ 5 ∷ 6 ∷ 7 ∷ 8 ∷ 9 ∷ 10 ∷ 11 ∷ []

short : Meets (encode (p3.table 2 2) 2 p3.packet eleven) (Err OutputShort) eleven
unfolding eleven bytes depth class_of sort_of osc_string osc.write_data osc.write_tags osc.write_message osc.write_packet bytes_outcome tree_outcome
short = formed p3.message p3.five p3.p3-tree refl

written : Meets (encode (p3.table 2 2) 2 p3.packet (eleven ++ (12 ∷ 13 ∷ [])))
    (Ok 12) (p3.packet ++ (13 ∷ []))
unfolding eleven bytes depth class_of sort_of osc_string osc.write_data osc.write_tags osc.write_message osc.write_packet bytes_outcome tree_outcome
written = formed p3.message p3.five p3.p3-tree refl

-- 2^64 - 1 has no next multiple of 4
last : Meets (pad 0xffff_ffff_ffff_ffff) (Err PadOverflow) tt
last = refl

-- ---- a cue index, of P3's packet in a frame

-- its record is refused with 12 where the output has a byte less
room-short : Meets (index_step (0 ∷ 0 ∷ 0 ∷ 12 ∷ p3.packet) 0 (replicate 15 9))
    (Err OutputShort) (replicate 15 9)
unfolding number bytes size depth snoc class_of sort_of read_text read_arg read_tags start_of read_message packet_by packet_at read_packet length_of
    cut_frame fold_at
room-short = record { answers = refl; leaves = refl }

-- a byte after its record is a part, and differs as record 1
byte_more : Meets (compare (entry_of 0 16 2) (entry_of 0 16 2 ++ (0 ∷ []))) (Differs 1) tt
unfolding bytes compared_at
byte_more = refl

-- it has no cue 1
no-cue : Meets (cue_at (entry_of 0 16 2) 1) (Err BadTable) tt
unfolding bytes
no-cue = refl

-- ---- the kinds that need care, over the packets and tables of crates/table/proofs/Examples.antt

-- a bundle in a bundle is written as its own bytes
nested : Meets (encode p3.nested-table 7 p3.nested (replicate 77 9)) (Ok 76) (p3.nested ++ (9 ∷ []))
unfolding bytes depth class_of sort_of osc_string osc_blob osc.write_data osc.write_tags osc.write_message osc.write_bundle osc.write_elements
    osc.write_packet bytes_outcome tree_outcome
nested = formed (p3.once 0) (p3.within 0) p3.nested-tree refl

-- a list of two frames
list : Meets (decode (TcpVec Rosc) p3.two (blank 12) 2)
    (decodes.Packets 12 0 0) (table_after tcp_vec 2 p3.two (blank 12))
list = record { answered = sym two-answer; left = ap (λ (r : DecodeAnswer). tabled r (forest_of (tcp_vec p3.two)) (blank 12)) two-answer }

-- a double that is no number, and the byte of a blob
double : Meets (look p3.nested-table 6) (Ok (Double 0x7FF8_0000_0000_0000 nan)) tt
unfolding p3.nested-table number bytes size record_of records_of kind_at zeros_at field_at own_rules class_of sort_of value_by look_at of_bits
double = refl

blob : (label : List ℕ) → Meets (text_of (Blob 60 1) p3.nested label) (0xFF ∷ []) tt
blob label = refl

-- ---- the hypotheses of `listed`, `settled` and `nothing_changed`

-- P1's refusal is one of the numbers of a decoder
p1-listed : (table : List ℕ) → among 2 decode_order ≡ true
p1-listed table = listed _ (decode Udp [] table 64) _ _ (p1 table)

-- the bundle's call has no other ending
nested-only : (r : Encoded) (out : List ℕ) → Meets (encode p3.nested-table 7 p3.nested (replicate 77 9)) r out
    → (r ≡ Ok 76) × (out ≡ p3.nested ++ (9 ∷ []))
nested-only r out m = settled _ (encode p3.nested-table 7 p3.nested (replicate 77 9)) r _ out _ m nested

-- a refusal with 12 leaves the output as it was
short-unchanged : (r : Encoded) (out : List ℕ) → Meets (encode (p3.table 2 2) 2 p3.packet eleven) r out → out ≡ eleven
short-unchanged r out m =
    let c = encode (p3.table 2 2) 2 p3.packet eleven in
    let q : r ≡ Err OutputShort = (settled _ c r _ out _ m short).0 in
    nothing_changed _ c r out m (subst (λ (a : Encoded). Fruitless (by_encoded a)) (sym q) tt)
