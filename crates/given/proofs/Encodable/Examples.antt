-- Examples, computed, that meet the hypotheses of `encodable`, for each framing, and of `gives_trees`, over the packets of
-- crates/table/proofs/Examples.antt: a bundle in a bundle, a message behind its length, and a list of both.
use mathlib.Core.Path.{refl}
use mathlib.Core.List.{List, [], ◌∷◌}
use Prim.Native.Nat.{ℕ}
use native.Mathlib.Omega.{arith}
use Rattle.wire.specs.Number.{number, bytes}
use Rattle.utf8.specs.Utf8.{Octets}
use Rattle.node.specs.Forest.{nil, node, size, depth, snoc}
use Rattle.node.specs.Tags.{class_of, sort_of}
use Rattle.node.specs.Records.{record_of, records_of, kind_at, field_at, stored}
use Rattle.text.specs.Text.{read_text}
use Rattle.argument.specs.Argument.{read_arg}
use Rattle.argument.specs.Dirt.{kept_padding, packets_padding}
use Rattle.arguments.specs.Arguments.{read_tags}
use Rattle.heads.specs.Heads.{size_of, prefix_of}
use Rattle.packet.specs.FirstText.{start_of}
use Rattle.packet.specs.Packet.{read_message, bundle_by, element_by, elements_by, packet_by, packet_at, read_packet}
use Rattle.framing.specs.Framing.{udp, read_frame, tcp, frames_at, tcp_vec}
use Rattle.edition.specs.declared.Framing.TheVariants.{Udp, Tcp, TcpVec}
use Rattle.answering.specs.Limits.{decoded}
use Rattle.table.specs.Formed.{WellFormed}
use Rattle.calls.specs.Demands.{table_after}
use Rattle.given.specs.Encodable.{AreTrees}
use Rattle.table.proofs.Examples.{small_bytes, mixed, nested, two, once, mixed-item, mixed-arguments, within}
use Rattle.edition.specs.declared.Edition.TheVariants.{Rosc}
use Rattle.calls.proofs.Answered.{packets-give}
use Rattle.calls.proofs.Room.Examples.{blank, nested-answer, two-answer}
use Rattle.given.proofs.Encodable.Tables.{gives_trees, encodable}

-- the message behind its length
abbrev framed : List ℕ
framed = 0 ∷ 0 ∷ 0 ∷ 36 ∷ mixed

by-udp : WellFormed (table_after udp 2 nested (blank 7)) 7 nested
unfolding number size depth snoc class_of sort_of read_text read_arg read_tags start_of size_of read_message bundle_by element_by elements_by packet_by
    packet_at read_packet udp
by-udp = encodable Udp nested (small_bytes nested tt) 2 (blank 7) (once 0) (within 0) 0 7 0 refl nested-answer

by-tcp : WellFormed (table_after tcp 64 framed (blank 5)) 5 framed
unfolding number size depth snoc class_of sort_of read_text read_arg read_tags start_of prefix_of read_message packet_by packet_at
    read_packet read_frame tcp decoded kept_padding packets_padding
by-tcp = encodable (Tcp Rosc) framed (small_bytes framed tt) 64 (blank 5) (mixed-item 4) (mixed-arguments 4) 0 5 0 refl refl

by-vec : WellFormed (table_after tcp_vec 64 framed (blank 5)) 5 framed
unfolding number size depth snoc class_of sort_of read_text read_arg read_tags start_of prefix_of read_message packet_by packet_at
    read_packet read_frame frames_at tcp_vec decoded kept_padding packets_padding
by-vec = encodable (TcpVec Rosc) framed (small_bytes framed tt) 64 (blank 5) (mixed-item 4) (mixed-arguments 4) 0 5 0 refl refl

-- twelve records, of two trees
by-list : AreTrees (table_after tcp_vec 2 two (blank 12)) 12 two (node (mixed-item 4) (mixed-arguments 4) (node (once 44) (within 44) nil))
unfolding number size depth snoc class_of sort_of read_text read_arg read_tags start_of size_of prefix_of read_message bundle_by element_by
    elements_by packet_by packet_at read_packet read_frame frames_at tcp_vec
by-list = gives_trees (TcpVec Rosc) two (small_bytes two tt) 2 (blank 12) 12 0 (packets-give two-answer)

-- record 1's text is é
its-text : Octets (0xC3 ∷ 0xA9 ∷ [])
unfolding number bytes size depth snoc class_of sort_of read_text read_arg read_tags start_of size_of prefix_of read_message bundle_by element_by
    elements_by packet_by packet_at read_packet read_frame frames_at tcp_vec decoded stored record_of records_of kind_at field_at
its-text = (by-list.reliable 1 (omega arith)).valid refl
