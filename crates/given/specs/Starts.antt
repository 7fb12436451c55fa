-- Ticket 10, "Where each item began": what the fifth numbers of a decoder's table say of the call's input.
use Rattle.std.specs.Prelude.{◌≡◌, true, false, List, [], ◌∷◌, ◌++◌, ℕ, ◌+◌, ◌-◌, ◌≤◌, ◌<◌, length, take, drop}
use Rattle.wire.specs.Number.{bytes}
use Rattle.wire.specs.Pad.{padded}
use Rattle.wire.specs.Part.{part}
use Rattle.node.specs.Tags.{message_kind, bundle_kind, among, class_of}
use Rattle.node.specs.Rules.{is_packet}
use Rattle.node.specs.Records.{kind_at, start_at, end_at, item_at}
use Rattle.node.specs.declared.record.Item.{Item}
use Rattle.node.specs.declared.tags.Class.{Class}
use Rattle.node.specs.declared.tags.Class.TheVariants.{Four, Eight, Bare, Text, Blob, Scalar, Unknown}
use Rattle.text.specs.Text.{until_nul}
use Rattle.argument.specs.Dirt.{types_at}
use Rattle.arguments.specs.Arguments.{Balanced}
use Rattle.heads.specs.Heads.{tags_in}
use Rattle.packet.specs.FirstText.{bundle_word}
use Rattle.framing.specs.Framing.{rule_of}
use Rattle.edition.specs.declared.Framing.{Framing}
use Rattle.calls.specs.Words.{Gives}
use Rattle.calls.specs.Demands.{answer_to, table_after}
use Rattle.osc10.specs.Words.{Bytes}

-- these bytes stand at offset o of the input
abbrev pub BytesStand : List ℕ → ℕ → List ℕ → Type 0
BytesStand msg o x = part msg o (length x) ≡ x

-- the bytes of a number, by the class of its kind: its `a`, and of one of eight bytes its `b` too (document 01, "The node table")
abbrev pub number_bytes : Class → Item → List ℕ
number_bytes Four item = bytes 4 item.a
number_bytes Eight item = bytes 4 item.a ++ bytes 4 item.b
number_bytes Bare item = []
number_bytes Text item = []
number_bytes Blob item = []
number_bytes Scalar item = bytes 4 item.a
number_bytes Unknown item = []

-- where "the item's data begins": for a bundle at its "#bundle", for a message at its address, and so for a text; "for a blob its size",
-- which stands before its bytes; for a number at its bytes
pub record OwnStart (msg : List ℕ) (item : Item) : Type 0 where
  pub bundle : item.kind ≡ bundle_kind → BytesStand msg item.start (bundle_word ++ (0 ∷ []))
  pub text : among item.kind (message_kind ∷ 115 ∷ []) ≡ true → item.start ≡ item.a
  pub blob : item.kind ≡ 98 → (item.start + 4 ≡ item.a) × BytesStand msg item.start (bytes 4 item.b)
  pub number : BytesStand msg item.start (number_bytes (class_of item.kind) item)

-- how long the data of an argument is, by its class, before its padding: a text with its NUL, a blob with its size (document 01, rules 1
-- and 4); an array has none of its own, and its kind is no class's
abbrev pub data_size : Class → Item → ℕ
data_size Four item = 4
data_size Eight item = 8
data_size Bare item = 0
data_size Text item = item.b + 1
data_size Blob item = 4 + item.b
data_size Scalar item = 4
data_size Unknown item = 0

-- where the data of an argument ends, with its padding: "the position reached" before the next
abbrev pub data_end : Item → ℕ
data_end item = item.start + padded (data_size (class_of item.kind) item)

-- the tags of a message (rule 2): its type text begins after its address and ends at its first NUL. Padding counts from `base`, the offset
-- of the frame's prefix, or 0
abbrev pub tags_at : ℕ → List ℕ → Item → List ℕ
tags_at base msg item =
    let types = drop (types_at base item.a item.b) msg in
    tags_in (take (until_nul types) types)

-- where its data begins: after its type text and the padding of that
abbrev pub data_at : ℕ → List ℕ → Item → ℕ
data_at base msg item =
    let o = types_at base item.a item.b in
    types_at base o (until_nul (drop o msg))

-- record r of `count` is a packet of the call: the first, or the next after another
pub data PacketAt (t : List ℕ) (count : ℕ) : ℕ → Type 0 where
  first_packet : PacketAt t count 0
  next_packet : {r : ℕ} → r < count → PacketAt t count r → PacketAt t count (end_at t r)

-- the starts of `count` records over the input: each lies in it and is its item's own, they do not fall in preorder, and each argument
-- begins where the data of the argument before it ends, so that one without data, and an array, begin where the next data does;
-- the first argument of a message begins where its data does, unless arguments before it were lost with an unclosed array (rule 3). A
-- frame's prefix stands 4 bytes before its packet; a UDP packet stands at 0, has none, and 0 - 4 is 0
pub record StartsHold (msg t : List ℕ) (count : ℕ) : Type 0 where
  pub within : (i : ℕ) → i < count → start_at t i ≤ length msg
  pub begins : (i : ℕ) → i < count → OwnStart msg (item_at t i)
  pub rise : (i j : ℕ) → i ≤ j → j < count → start_at t i ≤ start_at t j
  pub follows : (i : ℕ) → i + 1 < count → is_packet (kind_at t i) ≡ false → is_packet (kind_at t (i + 1)) ≡ false
      → start_at t (i + 1) ≡ data_end (item_at t i)
  pub opens : (r i : ℕ) → PacketAt t count r → r < count → r ≤ i → i < end_at t r → kind_at t i ≡ message_kind → i + 1 < end_at t i
      → Balanced (tags_at (start_at t r - 4) msg (item_at t i)) → start_at t (i + 1) ≡ data_at (start_at t r - 4) msg (item_at t i)

-- so are those of every answer with records, of one packet or of a list of any length: "the inspector highlights bytes"
abbrev pub GivesStarts : Framing → Type 0
GivesStarts framing =
    (msg : List ℕ) → Bytes msg → (limit : ℕ) (table : List ℕ) (count dirty : ℕ)
    → Gives (answer_to (rule_of framing limit) limit msg table) count dirty
    → StartsHold msg (table_after (rule_of framing limit) limit msg table) count
