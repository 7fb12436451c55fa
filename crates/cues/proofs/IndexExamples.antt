-- Examples, computed, that meet the hypotheses of `kept_is_short`, `written_fits` and `frame_long`: a frame, and the front of another,
-- which waits.
use mathlib.Core.Path.{◌≡◌, refl, subst}
use mathlib.Core.List.{List, [], ◌∷◌, ◌++◌}
use Prim.Native.Nat.{ℕ, ◌-◌, ◌*◌, ◌<◌, ◌≤◌}
use native.Mathlib.Omega.{arith}
use lib.ListN.{length, drop}
use Rattle.wire.specs.Limits.{longest}
use Rattle.wire.specs.Number.{number, bytes}
use Rattle.node.specs.Forest.{nil, size, depth}
use Rattle.text.specs.Text.{read_text}
use Rattle.arguments.specs.Arguments.{read_tags}
use Rattle.heads.specs.Heads.{length_of, message_item}
use Rattle.packet.specs.FirstText.{start_of}
use Rattle.packet.specs.Packet.{one, read_message, packet_by, packet_at, read_packet}
use Rattle.framing.specs.Framing.{read, cut_frame}
use Rattle.folding.specs.Folding.{fold_at}
use Rattle.folding.proofs.Examples.{text-front}
use Rattle.results.specs.declared.End.TheVariants as end
use Rattle.cues.specs.Cues.{index, index_of, written_of, entry_of, entry_size, most_entries}
use Rattle.cues.proofs.Shortest.{FrameLong, frame_long}
use Rattle.cues.proofs.Indexes.{written_fits}
use Rattle.cues.proofs.Kept.{kept_is_short}

-- the frame of a message without arguments: 00000008 2F610000 2C000000
abbrev plain : List ℕ
plain = 0 ∷ 0 ∷ 0 ∷ 8 ∷ 0x2F ∷ 0x61 ∷ 0 ∷ 0 ∷ 0x2C ∷ 0 ∷ 0 ∷ 0 ∷ []

-- the second frame waits at 12
one-and-a-part : index_of 0 (plain ++ text-front) ≡ index (entry_of 0 12 1) 12 end.Waiting
unfolding number bytes size depth read_text read_tags start_of read_message packet_by packet_at read_packet length_of
    cut_frame fold_at
one-and-a-part = refl

part-short : length (drop (12 - 0) (plain ++ text-front)) < longest
part-short = kept_is_short 0 (plain ++ text-front) (entry_of 0 12 1) 12 end.Waiting tt one-and-a-part

record-fits : length (written_of (index_of 0 (plain ++ text-front))) ≤ entry_size * most_entries
record-fits = written_fits 0 (plain ++ text-front) (omega arith)

-- the first frame has 12 bytes
plain-frame : cut_frame 0 0 plain ≡ read (one (message_item 4 2) nil 12)
unfolding number size depth read_text read_tags start_of read_message packet_by packet_at read_packet length_of cut_frame
plain-frame = refl

plain-long : 12 ≤ 12
plain-long = subst FrameLong plain-frame (frame_long 0 0 plain)
