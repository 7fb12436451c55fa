-- The examples of specs/Examples.antt hold: whatever a decoder answers and leaves by its contract is so.
use mathlib.Core.Path.{◌≡◌, ap}
use mathlib.Core.List.{List}
use Prim.Native.Nat.{ℕ}
use Rattle.wire.specs.Number.{number, bytes}
use Rattle.node.specs.Forest.{size, depth, snoc}
use Rattle.node.specs.Records.{capacity, records_of, record_of, stored}
use Rattle.node.specs.Tags.{class_of, sort_of}
use Rattle.text.specs.Text.{read_text}
use Rattle.argument.specs.Argument.{read_arg}
use Rattle.argument.specs.Dirt.{kept_padding, packets_padding}
use Rattle.arguments.specs.Arguments.{read_tags}
use Rattle.packet.specs.Packet.{read_message, bundle_by, packet_by, element_by, elements_by, packet_at, read_packet}
use Rattle.heads.specs.Heads.{size_of, prefix_of, length_of}
use Rattle.packet.specs.FirstText.{start_of}
use Rattle.framing.specs.Framing.{Whole, udp, read_frame, cut_frame, tcp, tcp2, frames_at, tcp_vec, tcp_vec2}
use Rattle.answering.specs.Limits.{decoded, forest_of, tabled, Decodes}
use Rattle.results.specs.Results.{DecodeAnswer}
use Rattle.decoder.specs.Cases.{reply_of, Each, none, ◌and◌}
use Rattle.decoder.specs.Examples.{examples, misread, standard}
use Rattle.decoder.proofs.Only.{decodes-only, decodes-met}

-- what a call answers and leaves is what the definitions give, which are computed
ends : {rule : List ℕ → Whole} {msg table : List ℕ} {limit : ℕ} (r : DecodeAnswer) (after : List ℕ) → Decodes rule msg table limit r after
    → (reply_of r ≡ reply_of (decoded rule (capacity table) limit msg))
    × (after ≡ tabled (decoded rule (capacity table) limit msg) (forest_of (rule msg)) table)
ends r after m = let x = decodes-only m decodes-met in (ap reply_of x.0, x.1)

-- P1 to P14
pub proved : Each examples
unfolding decoded size depth snoc number bytes class_of sort_of read_text read_arg read_tags start_of size_of prefix_of read_message bundle_by
    packet_by element_by elements_by packet_at read_packet udp read_frame tcp frames_at tcp_vec stored records_of record_of kept_padding
    packets_padding
proved = ends and ends and ends and ends and ends and ends and ends and ends and ends and ends and ends and ends and ends and ends and none

-- the readings that are easily got wrong
pub traps : Each misread
unfolding decoded size depth snoc number bytes class_of sort_of read_text read_arg read_tags start_of size_of prefix_of read_message bundle_by
    packet_by element_by elements_by packet_at read_packet udp read_frame tcp frames_at tcp_vec stored records_of record_of kept_padding
    packets_padding
traps =
    ends and ends and ends and ends and ends and ends and ends and ends and ends and ends and ends and ends and ends and ends and ends
    and ends and ends and ends and ends and ends and ends and ends and ends and ends and ends and ends and ends and ends and ends and ends
    and ends and ends and ends and ends and ends and ends and ends and ends and ends and ends and ends and none

-- those of edition 2
pub editions : Each standard
unfolding decoded size depth snoc number bytes class_of sort_of read_text read_arg read_tags start_of size_of prefix_of length_of read_message
    bundle_by
    packet_by element_by elements_by packet_at read_packet read_frame cut_frame tcp2 frames_at tcp_vec tcp_vec2 stored records_of record_of kept_padding
    packets_padding
editions =
    ends and ends and ends and ends and ends and ends and ends and ends and ends and ends and ends and ends and ends and ends and ends
    and ends and ends and ends and ends and ends and ends and ends and ends and ends and none
