-- The bytes of a packet, in the words of the OSC 1.0 specification: a function of the tree and the source that its ranges are in.
-- Document 01, "How bytes are written".
use Rattle.std.specs.Prelude.{cond, List, [], ◌∷◌, ◌++◌, ℕ, ◌+◌, eqb, length}
use Rattle.node.specs.Forest.{Forest, nil, node}
use Rattle.node.specs.Tags.{message_kind, sort_of}
use Rattle.node.specs.declared.record.Item.{Item}
use Rattle.node.specs.declared.tags.Sort.{Sort}
use Rattle.node.specs.declared.tags.Sort.TheVariants.{Opens, Closes, Leaf}
use Rattle.wire.specs.Limits.{longest}
use Rattle.wire.specs.Part.{part}
use Rattle.strings.specs.Atomic.{int32, osc_string, write_argument}

-- ---- arguments

-- "Arrays hold arrays: tags get brackets, data gets none": an array's data is that of what it contains
abbrev pub data_by : Sort → List ℕ → Item → List ℕ → List ℕ
data_by Opens source item within = within
data_by Closes source item within = []
data_by (Leaf class) source item within = write_argument class source item

-- the data of arguments, one after another
unfoldable pub write_data : List ℕ → Forest → List ℕ
write_data source nil = []
write_data source (node item inside rest) =
    data_by (sort_of item.kind) source item (write_data source inside) ++ write_data source rest

-- an array's tags stand in brackets, and any other argument is one tag
abbrev pub tags_by : Sort → ℕ → List ℕ → List ℕ
tags_by Opens kind within = kind ∷ (within ++ (93 ∷ []))
tags_by Closes kind within = kind ∷ []
tags_by (Leaf class) kind within = kind ∷ []

-- the type tags of arguments, without the comma
unfoldable pub write_tags : Forest → List ℕ
write_tags nil = []
write_tags (node item inside rest) = tags_by (sort_of item.kind) item.kind (write_tags inside) ++ write_tags rest

-- ---- packets

-- OSC Message: an OSC Address Pattern, which its two numbers name, an OSC Type Tag String that begins with a comma, and the arguments
unfoldable pub write_message : List ℕ → Item → Forest → List ℕ
write_message source item inside =
    osc_string (part source item.a item.b) ++ (osc_string (44 ∷ write_tags inside) ++ write_data source inside)

-- OSC Bundle: the OSC-string "#bundle", an OSC Time Tag, whose seconds and fraction are its two numbers, and the bundle elements
unfoldable pub write_bundle : Item → List ℕ → List ℕ
write_bundle item elements =
    (35 ∷ 98 ∷ 117 ∷ 110 ∷ 100 ∷ 108 ∷ 101 ∷ 0 ∷ []) ++ (int32 item.a ++ (int32 item.b ++ elements))

-- OSC Bundle Element: an int32 size and that many bytes
abbrev pub write_element : List ℕ → List ℕ
write_element content = int32 (length content) ++ content

-- the most bytes of an element with its size, where its packet may be encoded (refusal 1)
abbrev pub longest_element : ℕ
longest_element = longest + 4

-- a message or a bundle with these elements, by its kind
abbrev pub packet_with : List ℕ → Item → Forest → List ℕ → List ℕ
packet_with source item inside elements = cond (eqb item.kind message_kind) (write_message source item inside) (write_bundle item elements)

-- the elements of a bundle, one after another
unfoldable pub write_elements : List ℕ → Forest → List ℕ
write_elements source nil = []
write_elements source (node item inside rest) =
    write_element (packet_with source item inside (write_elements source inside)) ++ write_elements source rest

-- OSC Packet: a message or a bundle
unfoldable pub write_packet : List ℕ → Item → Forest → List ℕ
write_packet source item inside = packet_with source item inside (write_elements source inside)
