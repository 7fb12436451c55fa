-- What the program keeps and says of a frame of a recording: its packet, decoded alone, and where it lies.
use Rattle.std.specs.Prelude.{Some, None, ◌≡◌, List, ℕ, ◌-◌, length, take}
use Rattle.io.specs.Counts.{IsPrefixLen}
use Rattle.node.specs.Records.{records_of}
use Rattle.edition.specs.declared.Framing.TheVariants.{Udp}
use Rattle.telling.specs.Forms.{Says}
use Rattle.telling.specs.Replies.{decoded_line, frame_line}
use Rattle.commands.specs.declared.options.Options.{Options}
use Rattle.cues.specs.Cues.{most_in_a_cue}
use Rattle.outcomes.specs.Kept.{roots_of, has_table, kept_trees}
use Rattle.outcomes.specs.Told.{decoded_with, trees_with}
use Rattle.outcomes.specs.declared.Told.{Told}

-- a line without its end
abbrev pub without_end : List ℕ → List ℕ
without_end l = take (length l - 1) l

-- a frame is read as for the index, with depth 64 and 3,276 records (Ticket 10, "also in Ticket 5")
abbrev pub as_indexed : Options
as_indexed = record { depth = None; records = Some most_in_a_cue }

-- what is said of a packet alone
abbrev pub packet_words : List ℕ → List ℕ
packet_words packet =
    without_end (take 4096 (decoded_line (roots_of (trees_with Udp as_indexed packet)) (length packet) (decoded_with Udp as_indexed packet)))

-- the table is that of the packet as decode udp --records 3276 reads it, so that its offsets count from the packet's first byte; the line
-- is the same with the frame's offset and the packet's length
pub record FrameTold (packet : List ℕ) (at : ℕ) (table line : List ℕ) (told : Told) : Type 0 where
  pub kept : told.is_kept ≡ has_table (decoded_with Udp as_indexed packet)
  pub counts : IsPrefixLen told.bytes table
  pub bytes : take told.bytes table ≡ records_of 0 (kept_trees (decoded_with Udp as_indexed packet) (trees_with Udp as_indexed packet))
  pub says : Says (frame_line at (length packet) (packet_words packet)) line told.line
