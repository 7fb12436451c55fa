-- Describes code, and no part of the document: what the first reading of a packet answers, from what `read_packet` says. It writes
-- nothing. A position that is answered is the one after the last byte that was read.
use Rattle.std.specs.Prelude.{Bool, true, false, cond, List, ℕ, ◌+◌, leb, Err, None, Some}
use Rattle.node.specs.Forest.{Forest, nil, node, size, depth, level}
use Rattle.node.specs.declared.record.Item.{Item}
use Rattle.text.specs.Text.{non_zero}
use Rattle.argument.specs.CodeParts.{dirt_of}
use Rattle.argument.specs.Dirt.{types_padding}
use Rattle.packet.specs.Packet.{Out, fault, one}
use Rattle.measure.specs.Results.{Deep, Extent, Skimmed, Tree}

-- a packet that ends at `next`: its records and its dirt; or that it is deeper than the `room` levels that may be opened yet
abbrev pub fitting : ℕ → ℕ → ℕ → ℕ → ℕ → Extent
fitting room deep count next dirty = cond (leb deep room) (Tree count next dirty) (Deep next)

-- a packet at position p, where `room` levels of bundles and arrays may be opened yet and a node with such contents has such dirt: its
-- records, where it ends and its dirt; or that it is too deep, and where it ends
unfoldable pub extent : ℕ → ℕ → (Item → Forest → ℕ) → Out → Extent
extent room p dirt (fault k) = Err k
extent room p dirt (one item inside used) =
    fitting room (level item.kind (depth inside)) (1 + size inside) (p + used) (dirt item inside)

-- the dirt of a packet, in a frame that stands at `base`
abbrev pub node_dirt : ℕ → List ℕ → Item → Forest → ℕ
node_dirt base msg item inside = dirt_of base msg (node item inside nil)

-- of a message whose type text stands at offset o, where its address has so much
abbrev pub message_dirt : ℕ → List ℕ → ℕ → ℕ → Item → Forest → ℕ
message_dirt base msg o dirt item inside = dirt + non_zero (types_padding base msg o) + dirt_of base msg inside

-- of a bundle whose "#bundle" has so much
abbrev pub bundle_dirt : ℕ → List ℕ → ℕ → Item → Forest → ℕ
bundle_dirt base msg dirt item inside = dirt + dirt_of base msg inside

-- whether an element is accepted, and its size then
abbrev pub skimmed : Out → Skimmed
skimmed (fault k) = None
skimmed (one item inside used) = Some used

-- whether a packet is accepted
abbrev pub accepted : Out → Bool
accepted (fault k) = false
accepted (one item inside used) = true
