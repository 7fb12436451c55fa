-- The atomic data types of OSC 1.0 and the data of one argument as bytes: document 01, "How bytes are written".
use Rattle.std.specs.Prelude.{List, [], ◌++◌, ℕ, ◌-◌, ◌%◌, length, replicate}
use Rattle.wire.specs.Number.{bytes}
use Rattle.wire.specs.Part.{part}
use Rattle.node.specs.declared.record.Item.{Item}
use Rattle.node.specs.declared.tags.Class.{Class}
use Rattle.node.specs.declared.tags.Class.TheVariants.{Four, Eight, Bare, Text, Blob, Scalar, Unknown}

-- int32, and every other number of 32 bits: big-endian
abbrev pub int32 : ℕ → List ℕ
int32 x = bytes 4 x

-- OSC-string: the characters, a null, and 0 to 3 additional nulls, so that the whole is a multiple of 4 bytes
unfoldable pub osc_string : List ℕ → List ℕ
osc_string text = text ++ replicate (4 - length text % 4) 0

-- OSC-blob: an int32 size count, that many bytes, and 0 to 3 additional zero bytes, so that the whole is a multiple of 4 bytes
unfoldable pub osc_blob : List ℕ → List ℕ
osc_blob content = int32 (length content) ++ (content ++ replicate ((4 - length content % 4) % 4) 0)

-- the data of one argument that is no array, by the class of its type tag
abbrev pub write_argument : Class → List ℕ → Item → List ℕ
write_argument Four source item = int32 item.a
write_argument Eight source item = int32 item.a ++ int32 item.b
write_argument Bare source item = []
write_argument Text source item = osc_string (part source item.a item.b)
write_argument Blob source item = osc_blob (part source item.a item.b)
write_argument Scalar source item = int32 item.a
write_argument Unknown source item = []
