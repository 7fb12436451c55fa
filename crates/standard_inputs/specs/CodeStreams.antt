-- Describes code, and no part of the document: what the first reading of a frame of edition 2 answers. It writes nothing.
use Rattle.std.specs.Prelude.{cond, ℕ, ◌+◌, eqb, Err}
use Rattle.refusal.specs.declared.Refusal.TheVariants.{TooDeep, BytesLeft}
use Rattle.node.specs.Forest.{Forest, size}
use Rattle.node.specs.declared.record.Item.{Item}
use Rattle.packet.specs.Packet.{fault, one}
use Rattle.measure.specs.Results.{Extent}
use Rattle.standard_inputs.specs.Results.{CutExtent, Refused, Tree, Unreadable, Waiting}
use Rattle.measure.specs.Results as extents
use Rattle.framing.specs.Framing.{Frame, wait, read, refused}

-- the first reading of a frame
abbrev pub cut_extent : (Item → Forest → ℕ) → Frame → CutExtent
cut_extent dirt wait = Waiting
cut_extent dirt (read (fault k)) = Unreadable k
cut_extent dirt (read (one item f used)) = Tree (1 + size f) used (dirt item f)
cut_extent dirt (refused k) = Refused k

-- what a packet makes of its frame of n bytes
abbrev pub judged : ℕ → Extent → CutExtent
judged n (extents.Tree count next dirty) = cond (eqb next n) (Tree count next dirty) (Refused BytesLeft)
judged n (extents.Deep next) = cond (eqb next n) (Refused TooDeep) (Refused BytesLeft)
judged n (Err k) = Unreadable k
