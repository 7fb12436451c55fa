-- The order's demand 2, "what OSC 1.0 and RFC 3629 define is proved from them": what is claimed of the decoders and the encoders. What is
-- read is every packet of the wider grammar (`Allowed`). What is written is of the wider grammar for trees with '/'-led addresses and
-- without NUL in text or address, and of the narrower (`Strict`) for trees that have only what OSC 1.0 has.
use Rattle.std.specs.Prelude.{◌≡◌, List, ◌++◌, ℕ, ◌≤◌, length, take, Ok}
use Rattle.wire.specs.Limits.{longest, deepest}
use Rattle.node.specs.Forest.{Forest, nil, node, size}
use Rattle.node.specs.Records.{capacity}
use Rattle.node.specs.Tags.{message_kind}
use Rattle.node.specs.declared.record.Item.{Item}
use Rattle.framing.specs.Framing.{Whole, trees, udp, tcp}
use Rattle.answering.specs.Limits.{decoded}
use Rattle.results.specs.Results as decoder
use Rattle.table.specs.Tree.{IsTree}
use Rattle.encoder.specs.Outcome.{Outcome, Encodes, unframed, prefixed}
use Rattle.calls.specs.Demands.{table_after, answer_to}
use Rattle.osc10.specs.Words.{Bytes, Clean}
use Rattle.osc10.specs.Osc10.{Packet, Allowed, deep, osc_int32, Spells, StandsFor, Spelled}
use Rattle.osc10.specs.Strict.{Strict, StrictTree}
use Rattle.standards.specs.Seen.{entries_of, LookAs}

-- on a stream: "an int32 giving the size of the first packet, followed by the contents of the first packet"
abbrev pub osc_frame : List ℕ → List ℕ
osc_frame l = osc_int32 (length l) ++ l

-- ---- what is read

-- what holds of every packet that is allowed and of depth at most 64, and of its bytes as a decoder is handed them, at most 65,535
abbrev pub OfAllowed : (List ℕ → List ℕ) → (Packet → List ℕ → Type 0) → Type 0
OfAllowed handed Is =
    (packet : Packet) (l : List ℕ) → Allowed packet → Spells packet l → length (handed l) ≤ longest → deep packet ≤ deepest
    → Is packet (handed l)

-- bytes are accepted as a packet: nothing is left over, the tree stands for the packet, and with room for its records the decoder
-- answers their count, and no dirty padding
pub record AcceptedAs (rule : List ℕ → Whole) (packet : Packet) (l : List ℕ) : Type 0 where
  pub item : Item
  pub inside : Forest
  pub stands : StandsFor l packet item inside
  pub read : rule l ≡ trees (node item inside nil) 0
  pub decodes : (room : ℕ) → size (node item inside nil) ≤ room
      → decoded rule room deepest l ≡ decoder.Packets (size (node item inside nil)) 0 0

-- every packet that is allowed is accepted by `decode_udp` as what it is
abbrev pub Osc10Accepted : Type 0
Osc10Accepted = OfAllowed (λ l. l) (AcceptedAs udp)

-- its frame, as the whole input, is accepted by `decode_tcp` as what it holds; ranges are in the frame, so they count its prefix
abbrev pub FrameAccepted : Type 0
FrameAccepted = OfAllowed osc_frame (AcceptedAs tcp)

-- a call decodes a packet into a table, and `look` at each record gives the value that OSC 1.0 says
pub record SeenIn (rule : List ℕ → Whole) (packet : Packet) (l table : List ℕ) : Type 0 where
  pub answer : answer_to rule deepest l table ≡ decoder.Packets (length (entries_of packet)) 0 0
  pub looks : LookAs l (table_after rule deepest l table) 0 (entries_of packet)

-- in every table with room for the packet's records
abbrev pub SeenAs : (List ℕ → Whole) → Packet → List ℕ → Type 0
SeenAs rule packet l = (table : List ℕ) → length (entries_of packet) ≤ capacity table → SeenIn rule packet l table

-- every packet that is allowed is seen as what it is by who calls `decode_udp`, `look` and `text_of`
abbrev pub Osc10Seen : Type 0
Osc10Seen = OfAllowed (λ l. l) (SeenAs udp)

-- and in its frame by who calls `decode_tcp`
abbrev pub FrameSeen : Type 0
FrameSeen = OfAllowed osc_frame (SeenAs tcp)

-- ---- what is written

-- what holds of whatever an encoder writes, by its contract, for a table whose tree is as given
abbrev pub OfWritten : (ℕ → List ℕ → List ℕ) → (List ℕ → Item → Forest → Type 0) → (List ℕ → Item → Forest → List ℕ → Type 0) → Type 0
OfWritten frame Given Is =
    (t : List ℕ) (count : ℕ) (source : List ℕ) (item : Item) (inside : Forest) → Bytes t → Bytes source
    → IsTree t count source item inside
    → Given source item inside → (out : List ℕ) (r : Outcome) → Encodes frame t count source out r
    → (n : ℕ) → r.answer ≡ Ok n
    → Is source item inside (take n r.out)

-- '/'-led addresses, and no NUL in text or address
abbrev pub CleanTree : List ℕ → Item → Forest → Type 0
CleanTree source item inside = Clean source (node item inside nil)

-- a message, and as given
pub record GivenMessage (Given : List ℕ → Item → Forest → Type 0) (source : List ℕ) (item : Item) (inside : Forest) : Type 0 where
  pub message : item.kind ≡ message_kind
  pub given : Given source item inside

-- and the packet is one of OSC 1.0 itself
pub record SpelledStrictly (source : List ℕ) (item : Item) (inside : Forest) (l : List ℕ) : Type 0 where
  pub spelled : Spelled source item inside l
  pub strict : Strict spelled.packet

-- bytes are a frame, and what stands in it is such
pub record FrameOf (Is : List ℕ → Item → Forest → List ℕ → Type 0) (source : List ℕ) (item : Item) (inside : Forest) (bs : List ℕ)
    : Type 0 where
  pub content : List ℕ
  pub framed : bs ≡ osc_frame content
  pub is : Is source item inside content

-- what `encode` writes for a clean table is a packet that is allowed, and the one that the table's tree is
abbrev pub Osc10Written : Type 0
Osc10Written = OfWritten unframed CleanTree Spelled

-- for a table that has only what OSC 1.0 has, it is a packet of OSC 1.0 itself
abbrev pub StrictWritten : Type 0
StrictWritten = OfWritten unframed StrictTree SpelledStrictly

-- what `encode_tcp` writes for a clean table of a message is the frame of such a packet
abbrev pub FrameWritten : Type 0
FrameWritten = OfWritten prefixed (GivenMessage CleanTree) (FrameOf Spelled)

-- and of a packet of OSC 1.0 itself where the table has only what OSC 1.0 has
abbrev pub StrictFrameWritten : Type 0
StrictFrameWritten = OfWritten prefixed (GivenMessage StrictTree) (FrameOf SpelledStrictly)
