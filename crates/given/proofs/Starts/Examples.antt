-- Examples, computed, that meet the hypothesis of `gives_starts`: a bundle in a bundle, a list of two frames, and a tag without data.
use mathlib.Core.Path.{◌≡◌, refl}
use mathlib.Core.List.{List, [], ◌∷◌}
use Prim.Native.Nat.{ℕ, ◌≤◌}
use native.Mathlib.Omega.{arith}
use Rattle.wire.specs.Number.{number, bytes}
use Rattle.node.specs.Forest.{size, depth, snoc}
use Rattle.node.specs.Tags.{class_of, sort_of}
use Rattle.node.specs.Records.{record_of, records_of, stored, kind_at, field_at, start_at}
use Rattle.text.specs.Text.{read_text}
use Rattle.argument.specs.Argument.{read_arg}
use Rattle.argument.specs.Dirt.{kept_padding, packets_padding}
use Rattle.arguments.specs.Arguments.{read_tags, nothing, another}
use Rattle.packet.specs.FirstText.{start_of}
use Rattle.packet.specs.Packet.{read_message, packet_by, packet_at, read_packet}
use Rattle.answering.specs.Limits.{decoded}
use Rattle.results.specs.Results.{Packets}
use Rattle.framing.specs.Framing.{udp, tcp_vec}
use Rattle.edition.specs.declared.Framing.TheVariants.{Udp, TcpVec}
use Rattle.table.proofs.Examples.{small_bytes, nested, two}
use Rattle.calls.specs.Demands.{answer_to, table_after}
use Rattle.given.specs.Starts.{StartsHold, first_packet}
use Rattle.edition.specs.declared.Edition.TheVariants.{Rosc}
use Rattle.calls.proofs.Answered.{packets-give}
use Rattle.calls.proofs.Room.Examples.{blank, nested-answer, two-answer}
use Rattle.given.proofs.Starts.Tables.{gives_starts}

-- the starts of the bundle's seven records
by-udp : StartsHold nested (table_after udp 2 nested (blank 7)) 7
by-udp = gives_starts Udp nested (small_bytes nested tt) 2 (blank 7) 7 0 (packets-give nested-answer)

-- those of the list's twelve: the bundle's, record 5, is not before the message's last argument
by-list : StartsHold two (table_after tcp_vec 2 two (blank 12)) 12
by-list = gives_starts (TcpVec Rosc) two (small_bytes two tt) 2 (blank 12) 12 0 (packets-give two-answer)

later : start_at (table_after tcp_vec 2 two (blank 12)) 4 ≤ start_at (table_after tcp_vec 2 two (blank 12)) 5
later = by-list.rise 4 5 (omega arith) (omega arith)

-- "/a" with T alone: 2F610000 2C540000
abbrev bare : List ℕ
bare = 0x2F ∷ 0x61 ∷ 0 ∷ 0 ∷ 0x2C ∷ 0x54 ∷ 0 ∷ 0 ∷ []

abbrev bare-table : List ℕ
bare-table = table_after udp 0 bare (blank 2)

bare-answer : answer_to udp 0 bare (blank 2) ≡ Packets 2 0 0
unfolding number size depth snoc class_of sort_of read_text read_arg read_tags start_of read_message packet_by packet_at read_packet udp decoded
    kept_padding packets_padding
bare-answer = refl

by_bare : StartsHold bare bare-table 2
by_bare = gives_starts Udp bare (small_bytes bare tt) 0 (blank 2) 2 0 (packets-give bare-answer)

-- its T begins at the position reached, 8
at_8 : start_at bare-table 1 ≡ 8
unfolding number size depth snoc class_of sort_of read_text read_arg read_tags start_of read_message packet_by packet_at read_packet udp decoded
    kept_padding packets_padding bytes record_of records_of stored field_at kind_at
at_8 =
    by_bare.opens 0 0 first_packet (omega arith) (omega arith) (omega arith) refl (omega arith)
    (another 84 (λ e. omega arith) (λ e. omega arith) nothing)
