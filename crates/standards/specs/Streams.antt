-- Document 02, Ticket 1, and OSC 1.0 on a stream: "an int32 giving the size of the first packet, followed by the contents of the first
-- packet, followed by the size of the second packet, etc." What is claimed of edition 2's decoders and encoder.
use Rattle.std.specs.Prelude.{◌≡◌, List, [], ◌++◌, ℕ, ◌≤◌, length}
use Rattle.edition.specs.declared.Edition.TheVariants.{Standard}
use Rattle.wire.specs.Limits.{longest, deepest}
use Rattle.node.specs.Forest.{Forest, nil, node, size, depth}
use Rattle.node.specs.Tags.{bundle_kind}
use Rattle.node.specs.Records.{capacity}
use Rattle.node.specs.declared.record.Item.{Item}
use Rattle.framing.specs.Framing.{trees, tcp2, tcp_vec2}
use Rattle.answering.specs.Limits.{decoded}
use Rattle.results.specs.Results as decoder
use Rattle.table.specs.Tree.{Obeys, FieldsFit}
use Rattle.writers.specs.Osc.{write_element, write_packet}
use Rattle.encoder.specs.Outcome.{Outcome, Encodes, framed_by}
use Rattle.osc10.specs.Words.{Bytes, Clean}
use Rattle.osc10.specs.Osc10.{Packet, Packets, none, also, AllAllowed, deep, Spells, StandFor, Spelled}
use Rattle.osc10.specs.Strict.{StrictTree}
use Rattle.standards.specs.Standards.{osc_frame, OfAllowed, AcceptedAs, SeenAs, OfWritten, CleanTree, SpelledStrictly, FrameOf}
use Rattle.standards.specs.Trip.{Same, Playable, PlaysBack}

-- ---- what is read

-- the frame of every packet that is allowed is accepted by `decode_tcp` in edition 2 as what it holds
abbrev pub CutAccepted : Type 0
CutAccepted = OfAllowed osc_frame (AcceptedAs (tcp2 deepest))

-- and seen as what it is by who calls it, `look` and `text_of`
abbrev pub CutSeen : Type 0
CutSeen = OfAllowed osc_frame (SeenAs (tcp2 deepest))

-- packets one after another, each after its size
pub data Stream : Packets → List ℕ → Type 0 where
  ends : Stream none []
  frame : {packet : Packet} {rest : Packets} {l more : List ℕ} → Spells packet l → Stream rest more
      → Stream (also packet rest) (osc_frame l ++ more)

-- each of depth at most 64
abbrev pub AllShallow : Packets → Type 0
AllShallow none = Unit {0}
AllShallow (also packet rest) = (deep packet ≤ deepest) × AllShallow rest

-- a stream is accepted as its packets: nothing is left over, the trees stand for them in order, and with room for their records the decoder
-- answers their count, and no dirty padding
pub record AcceptedStream (packets : Packets) (s : List ℕ) : Type 0 where
  pub forest : Forest
  pub stand : StandFor s packets forest
  pub read : tcp_vec2 deepest s ≡ trees forest 0
  pub decodes : (room : ℕ) → size forest ≤ room → decoded (tcp_vec2 deepest) room deepest s ≡ decoder.Packets (size forest) 0 0

-- every stream of allowed packets of at most 65,535 bytes is accepted by `decode_tcp_vec` in edition 2 as those packets
abbrev pub StreamAccepted : Type 0
StreamAccepted =
    (packets : Packets) (s : List ℕ) → Stream packets s → AllAllowed packets → AllShallow packets → length s ≤ longest
    → AcceptedStream packets s

-- ---- what is written

-- what `encode_tcp` writes in edition 2 for a clean table is the frame of a packet that is allowed, a bundle's too
abbrev pub CutWritten : Type 0
CutWritten = OfWritten (framed_by Standard) CleanTree (FrameOf Spelled)

-- and of a packet of OSC 1.0 itself where the table has only what OSC 1.0 has
abbrev pub StrictCutWritten : Type 0
StrictCutWritten = OfWritten (framed_by Standard) StrictTree (FrameOf SpelledStrictly)

-- ---- the round trip

-- what `encode_tcp` writes for a playable table whose frame fits 65,535 bytes, `decode_tcp` reads back as the same table
abbrev pub CutTrip : Type 0
CutTrip =
    (t : List ℕ) (count : ℕ) (source : List ℕ) (item : Item) (inside : Forest) → Playable t count source item inside
    → length (write_element (write_packet source item inside)) ≤ longest
    → (out : List ℕ) → length (write_element (write_packet source item inside)) ≤ length out
    → (r : Outcome) → Encodes (framed_by Standard) t count source out r
    → (table : List ℕ) → count ≤ capacity table
    → PlaysBack (tcp2 deepest) t count source out r table

-- a tree that can be written and is read back: '/'-led and without NUL, of depth at most 64
pub record Fitted (source : List ℕ) (item : Item) (inside : Forest) : Type 0 where
  pub sourced : Bytes source
  pub obeys : Obeys source bundle_kind (node item inside nil)
  pub fields : FieldsFit (node item inside nil)
  pub clean : Clean source (node item inside nil)
  pub shallow : depth (node item inside nil) ≤ deepest

-- the frames of trees, each over its own source, written one after another; and a forest of the same trees over all that was written, "only
-- their offsets may differ"
pub data Played (s : List ℕ) : List ℕ → Forest → Type 0 where
  ends : Played s [] nil
  frame : {source more : List ℕ} {item item' : Item} {inside inside' rest : Forest} → Fitted source item inside
      → Same source s (node item inside nil) (node item' inside' nil) → Played s more rest
      → Played s (write_element (write_packet source item inside) ++ more) (node item' inside' rest)

-- the frames alone
pub data Frames : List ℕ → Type 0 where
  ends : Frames []
  frame : {more : List ℕ} (source : List ℕ) (item : Item) (inside : Forest) → Fitted source item inside → Frames more
      → Frames (write_element (write_packet source item inside) ++ more)

-- frames written one after another, of at most 65,535 bytes, are read back by `decode_tcp_vec` as a list of the same trees
pub record Returned (s : List ℕ) : Type 0 where
  pub forest : Forest
  pub same : Played s s forest
  pub read : tcp_vec2 deepest s ≡ trees forest 0

abbrev pub FramesTrip : Type 0
FramesTrip = (s : List ℕ) → Frames s → length s ≤ longest → Returned s
