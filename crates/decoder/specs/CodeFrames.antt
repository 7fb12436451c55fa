-- Describes code, and no part of the document: what the second reading of a whole input needs and does. It fills a table that has room.
use Rattle.std.specs.Prelude.{Err, ◌≡◌, List, ℕ, ◌≤◌, take, drop}
use Rattle.refusal.specs.declared.Fault.TheVariants.{Empty}
use Rattle.wire.specs.Limits.{longest}
use Rattle.node.specs.Forest.{size}
use Rattle.node.specs.Records.{TableRoom}
use Rattle.heads.specs.Heads.{length_of}
use Rattle.heads.specs.Results.{Length}
use Rattle.heads.specs.Results as cut
use Rattle.packet.specs.Packet.{Out, fault, after, read_packet}
use Rattle.framing.specs.Framing.{Whole, trees, waiting, refusal, stopped, Frame, wait, read, refused}
use Rattle.answering.specs.Limits.{forest_of}

-- the packet of a frame as the second reading has it: nothing is written of a frame that waits or is refused
abbrev pub frame_packet : Frame → Out
frame_packet wait = fault Empty
frame_packet (read o) = o
frame_packet (refused k) = fault Empty

-- the packet of a frame of edition 2, whatever is left in it and however deep it is
abbrev pub packet_cut_by : ℕ → List ℕ → Length → Out
packet_cut_by base l (cut.Cuts n) = after 4 (read_packet base (take n (drop 4 l)) 4)
packet_cut_by base l cut.Waiting = fault Empty
packet_cut_by base l (Err bad) = fault Empty

unfoldable pub packet_cut : ℕ → List ℕ → Out
packet_cut base l = packet_cut_by base l (length_of l)

-- an input that is read as trees, or as trees before a refused frame
abbrev pub Accepted : Whole → Type 0
Accepted (trees f left) = Unit {0}
Accepted waiting = ⊥
Accepted (refusal k) = ⊥
Accepted (stopped f left k at) = Unit {0}

-- what the second reading of n bytes needs: they are few and accepted, and the table has room for so many records
pub record Fillable (w : Whole) (n count : ℕ) (table : List ℕ) : Type 0 where
  pub short : n ≤ longest
  pub accepted : Accepted w
  pub records : size (forest_of w) ≡ count
  pub room : TableRoom (forest_of w) 0 table
