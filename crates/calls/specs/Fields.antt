-- Which field was short: document 02, Ticket 2, "split it by what ran out, with the offset at which that field began". Fields stand one
-- after another, each right after the one before it; the one that is told is the first that needs more bytes than are there. So what stands
-- before it says where it begins. A reader of a log relies on it.
use Rattle.std.specs.Prelude.{◌≡◌, cond, List, [], ◌∷◌, ◌++◌, ℕ, ◌+◌, ◌-◌, ◌≤◌, ◌<◌, eqb, length, get_or, take, drop, Err}
use Rattle.refusal.specs.declared.Fault.TheVariants.{Short}
use Rattle.refusal.specs.declared.Refusal.TheVariants.{Unreadable}
use Rattle.refusal.specs.declared.Field.{Field}
use Rattle.refusal.specs.declared.Field.TheVariants.{Address, TypeText, Data, Padding, Head}
use Rattle.wire.specs.Number.{number}
use Rattle.wire.specs.Pad.{padded}
use Rattle.wire.specs.Same.{same_bytes}
use Rattle.node.specs.Forest.{Forest}
use Rattle.node.specs.Tags.{message_kind, class_of}
use Rattle.node.specs.declared.record.Item.{Item}
use Rattle.node.specs.declared.tags.Class.{Class}
use Rattle.node.specs.declared.tags.Class.TheVariants.{Four, Eight, Bare, Text as String, Blob, Scalar, Unknown}
use Rattle.text.specs.Text.{until_nul, reach}
use Rattle.heads.specs.Heads.{tags_in}
use Rattle.packet.specs.FirstText.{bundle_word}
use Rattle.packet.specs.Packet.{one}
use Rattle.framing.specs.Framing.{Whole, Frame, read, read_frame, cut_frame, tcp2, tcp_vec, tcp_vec2}
use Rattle.results.specs.Results.{Stopped}
use Rattle.calls.specs.Demands.{answer_to}

-- ---- the fields of a packet, in their order

-- a field as it stands among the bytes (Ticket 2); `plain n` is the data of an argument that has n bytes (rule 4)
pub data Form : Type 0 where
  prefix : Form
  address : Form
  type_text : Form
  padding : Form
  plain : (bytes : ℕ) → Form
  string : Form
  blob : Form
  time_tag : Form

-- what it is told as (Ticket 2): "17 address, 18 type text, 19 argument data, 20 padding, 21 prefix or a bundle's time tag"
abbrev pub field_of : Form → Field
field_of prefix = Head
field_of address = Address
field_of type_text = TypeText
field_of padding = Padding
field_of (plain n) = Data
field_of string = Data
field_of blob = Data
field_of time_tag = Head

-- how many bytes it needs at position p, where the bytes l stand (rules 1, 4, 5 and 6): a text its NUL too, which belongs to it (Ticket 2),
-- and so a byte more than there are where there is no NUL; padding as many as lead to a multiple of 4; a blob its size and its bytes
abbrev pub needs : Form → ℕ → List ℕ → ℕ
needs prefix p l = 4
needs address p l = until_nul l + 1
needs type_text p l = until_nul l + 1
needs padding p l = padded p - p
needs (plain n) p l = n
needs string p l = until_nul l + 1
needs blob p l = 4 + number 4 l
needs time_tag p l = 8

-- the data of an argument (rule 4): a text and a blob have padding after them
abbrev pub class_fields : Class → List Form
class_fields Four = plain 4 ∷ []
class_fields Eight = plain 8 ∷ []
class_fields Bare = []
class_fields String = string ∷ padding ∷ []
class_fields Blob = blob ∷ padding ∷ []
class_fields Scalar = plain 4 ∷ []
class_fields Unknown = []

-- the data of each tag, in the order of the tags (rules 2 and 3); '[' and ']' have none
abbrev pub data_fields : List ℕ → List Form
data_fields [] = []
data_fields (tag ∷ tags) = class_fields (class_of tag) ++ data_fields tags

-- what follows the address of a message, where the bytes l stand (rule 2): type text, padding, and the data of the tags
abbrev pub message_fields : List ℕ → List Form
message_fields l = type_text ∷ padding ∷ data_fields (tags_in (take (until_nul l) l))

-- what follows the first text of the packet l, where the bytes `later` stand (rules 2 and 5): '/' leads a message; after "#bundle" a time
-- tag, and "swallowed elements still report nothing" (Ticket 2)
abbrev pub later_fields : List ℕ → List ℕ → List Form
later_fields l later =
    cond (eqb (get_or l 0 0) message_kind) (message_fields later) (cond (same_bytes (take (until_nul l) l) bundle_word) (time_tag ∷ []) [])

-- the fields of the packet l at position p: its first text, which is the address until it is known to be "#bundle", and what follows it
abbrev pub packet_fields : List ℕ → ℕ → List Form
packet_fields l p = address ∷ padding ∷ later_fields l (drop (reach p (until_nul l + 1)) l)

-- the fields of the frame l (rule 6): its prefix, and the packet after it
abbrev pub frame_fields : List ℕ → List Form
frame_fields l = prefix ∷ packet_fields (drop 4 l) 4

-- ---- the one that is short

-- of these fields, the first of which begins at position p, where the bytes l stand, this one is short, and begins at position `at`: "order
-- as met" (Ticket 2)
pub data ShortIn : List Form → List ℕ → ℕ → Field → ℕ → Type 0 where
  -- the first of them needs more bytes than there are
  cut_here : {form : Form} {forms : List Form} {l : List ℕ} {p : ℕ} → length l < needs form p l
      → ShortIn (form ∷ forms) l p (field_of form) p
  -- the first is all there, and a later one is short
  cut_later : {form : Form} {forms : List Form} {l : List ℕ} {p : ℕ} {field : Field} {at : ℕ} → needs form p l ≤ length l
      → ShortIn forms (drop (needs form p l) l) (p + needs form p l) field at → ShortIn (form ∷ forms) l p field at

-- this field of the packet l is short: `decode_udp`
abbrev pub PacketShort : List ℕ → Field → ℕ → Type 0
PacketShort l = ShortIn (packet_fields l 0) l 0

-- this field of the frame l is short, in edition 1; positions count from the frame's prefix (rule 7)
abbrev pub FrameShort : List ℕ → Field → ℕ → Type 0
FrameShort l = ShortIn (frame_fields l) l 0

-- the packet of the frame l of edition 2: "the length cuts the packet" (Ticket 1)
abbrev pub cut_packet : List ℕ → List ℕ
cut_packet l = take (number 4 l) (drop 4 l)

-- this field of the frame l is short, in edition 2: the frame is all there, and the field is short within it, whatever follows it; 21 is
-- of a time tag, and 20 is of no such frame, since it ends at a multiple of 4
pub record CutShort (l : List ℕ) (field : Field) (at : ℕ) : Type 0 where
  pub whole : 4 + number 4 l ≤ length l
  pub short : ShortIn (packet_fields (cut_packet l) 4) (cut_packet l) 4 field at
  pub no_padding : field ≡ Padding → ⊥

-- the list l, which stands at offset `base`, reads the frame at offset `start`, from which on the bytes m stand: rule 7, "repeats 6 until
-- nothing is left"
pub data Reaches (frame : ℕ → List ℕ → Frame) : ℕ → List ℕ → ℕ → List ℕ → Type 0 where
  first_frame : {base : ℕ} {l : List ℕ} → Reaches frame base l base l
  next_frame : {base start used : ℕ} {l m : List ℕ} {item : Item} {inside : Forest} → frame base l ≡ read (one item inside used)
      → used < length l → Reaches frame (base + used) (drop used l) start m → Reaches frame base l start m

-- this field of the list msg is short: as `Is` says, in a frame that the list reads. The frame begins at offset `start` and the field at
-- `at`, both counted from the call's first byte (Ticket 2); `own` is the field's place in its frame
pub record ListShort (frame : ℕ → List ℕ → Frame) (Is : List ℕ → Field → ℕ → Type 0) (msg : List ℕ) (field : Field) (at start : ℕ)
    : Type 0 where
  pub from : List ℕ
  pub reached : Reaches frame 0 msg start from
  pub own : ℕ
  pub offset : at ≡ start + own
  pub short : Is from field own

-- ---- the theorems

-- a decoder that refuses an input with 17 to 21 tells the field that is short, and where it begins
abbrev pub FieldsShort : (List ℕ → Whole) → (List ℕ → Field → ℕ → Type 0) → Type 0
FieldsShort rule Is =
    (msg : List ℕ) (limit : ℕ) (table : List ℕ) (field : Field) (at : ℕ)
    → answer_to rule limit msg table ≡ Err (Unreadable (Short field at)) → Is msg field at

-- so does a list, of a frame that it reads
abbrev pub ListFieldsShort : Type 0
ListFieldsShort = FieldsShort tcp_vec (λ msg field at. (start : ℕ) × ListShort (λ b l. read_frame b l) FrameShort msg field at start)

-- so does `decode_tcp` in edition 2, of a field that is short within its frame
abbrev pub CutFieldsShort : Type 0
CutFieldsShort =
    (msg : List ℕ) (limit : ℕ) (table : List ℕ) (field : Field) (at : ℕ)
    → answer_to (tcp2 limit) limit msg table ≡ Err (Unreadable (Short field at)) → CutShort msg field at

-- and so does a list of edition 2, of the frame at which it stops
abbrev pub CutFrameShort : Type 0
CutFrameShort =
    (msg : List ℕ) (limit : ℕ) (table : List ℕ) (count left dirty : ℕ) (field : Field) (at start : ℕ)
    → answer_to (tcp_vec2 limit) limit msg table ≡ Stopped count left dirty (Unreadable (Short field at)) start
    → ListShort (λ b l. cut_frame limit b l) CutShort msg field at start

-- no second number or offset fits
abbrev pub OneField : (List ℕ → Field → ℕ → Type 0) → Type 0
OneField Is = (l : List ℕ) (field field' : Field) (at at' : ℕ) → Is l field at → Is l field' at' → (field ≡ field') × (at ≡ at')

-- nor, of a list, a second frame
abbrev pub OneInList : (ℕ → List ℕ → Frame) → (List ℕ → Field → ℕ → Type 0) → Type 0
OneInList frame Is =
    (msg : List ℕ) (field field' : Field) (at at' start start' : ℕ) → ListShort frame Is msg field at start
    → ListShort frame Is msg field' at' start' → (field ≡ field') × (at ≡ at') × (start ≡ start')
