-- One argument's data by its tag: document 01, "How bytes are read", rule 4, and "The node table".
-- A rule reads at the front of l, which stands at position p of its frame; `base` is added to a position to give an offset.
use Rattle.std.specs.Prelude.{cond, List, ℕ, ◌+◌, leb, length, drop, Err, Ok}
use Rattle.refusal.specs.declared.Fault.{Fault}
use Rattle.refusal.specs.declared.Fault.TheVariants.{Short, UnknownTag, NotScalar}
use Rattle.refusal.specs.declared.Field.TheVariants.{Data, Padding}
use Rattle.wire.specs.Number.{number}
use Rattle.node.specs.Tags.{is_scalar}
use Rattle.node.specs.declared.record.Item.{Item}
use Rattle.node.specs.declared.tags.Class.{Class}
use Rattle.node.specs.declared.tags.Class.TheVariants.{Four, Eight, Bare, Text as String, Blob, Scalar, Unknown}
use Rattle.text.specs.Text.{reach, read_text, fault_in}
use Rattle.argument.specs.Results.{Arg, Given}
use Rattle.text.specs.Results.{Text}

-- the own numbers of an argument whose data begins at `start`: its kind is its tag
abbrev pub arg_item : ℕ → ℕ → ℕ → ℕ → Item
arg_item tag start a b = record { kind = tag; a = a; b = b; start = start }

-- n bytes are there, or this fault is
abbrev pub having : ℕ → List ℕ → Fault → Arg → Arg
having n l fault x = cond (leb n (length l)) x (Err fault)

-- a text at position p is a range: its offset, where it begins too, and its length
abbrev pub text_arg : ℕ → ℕ → ℕ → Text → Arg
text_arg tag offset p (Ok text) = Given (arg_item tag offset offset text.length) text.used
text_arg tag offset p (Err lack) = Err (fault_in Data p lack)

-- the data of one argument, one class to a line ("Data: big-endian. b is a 4-byte size, the bytes, then padding as for text"); it begins
-- at offset base + p, a blob's with its size, and without data that is the position reached (Ticket 10); "an argument is one field, 19 from
-- its first byte, except its padding, 20" (Ticket 2)
unfoldable pub read_arg : ℕ → Class → ℕ → List ℕ → ℕ → Arg
read_arg tag Four base l p = having 4 l (Short Data p) (Given (arg_item tag (base + p) (number 4 l) 0) 4)
read_arg tag Eight base l p = having 8 l (Short Data p) (Given (arg_item tag (base + p) (number 4 l) (number 4 (drop 4 l))) 8)
read_arg tag Bare base l p = Given (arg_item tag (base + p) 0 0) 0
read_arg tag String base l p = text_arg tag (base + p) p (read_text l p)
read_arg tag Blob base l p =
    having 4 l (Short Data p)
    (having (4 + number 4 l) l (Short Data p)
    (having (reach p (4 + number 4 l)) l (Short Padding (p + (4 + number 4 l)))
    (Given (arg_item tag (base + p) (base + (p + 4)) (number 4 l)) (reach p (4 + number 4 l)))))
read_arg tag Scalar base l p =
    having 4 l (Short Data p) (cond (is_scalar (number 4 l)) (Given (arg_item tag (base + p) (number 4 l) 0) 4) (Err NotScalar))
read_arg tag Unknown base l p = Err UnknownTag
