-- Dirty padding: document 02, Ticket 8. The padding bytes of all that is kept, found from the trees and the input, and how many of them are
-- not zero. An offset counts from the first byte of the call's input; padding counts from `base`, the offset of the frame's prefix, or 0.
use Rattle.std.specs.Prelude.{◌≡◌, cond, List, [], ◌++◌, ℕ, ◌+◌, ◌-◌, ◌<◌, eqb, length, get_or, take, drop}
use Rattle.wire.specs.Pad.{padded}
use Rattle.node.specs.Forest.{Forest, nil, node}
use Rattle.node.specs.Tags.{message_kind, bundle_kind, class_of}
use Rattle.node.specs.declared.record.Item.{Item}
use Rattle.node.specs.declared.tags.Class.{Class}
use Rattle.node.specs.declared.tags.Class.TheVariants.{Four, Eight, Bare, Text as String, Blob, Scalar, Unknown}
use Rattle.text.specs.Text.{until_nul, read_text, non_zero}
use Rattle.argument.specs.Results.{Given}
use Rattle.text.specs.Results.{Found}
use Rattle.argument.specs.Argument.{read_arg}

-- the padding that begins at offset o: up to the first place that is a multiple of 4 from `base` on (document 01, rule 1)
abbrev pub padding_at : ℕ → List ℕ → ℕ → List ℕ
padding_at base msg o = take (padded (o - base) - (o - base)) (drop o msg)

-- the padding of the text of n bytes at offset o: "the ending NUL is not padding"
abbrev pub text_padding : ℕ → List ℕ → ℕ → ℕ → List ℕ
text_padding base msg o n = padding_at base msg (o + n + 1)

-- where the type text of a message begins: right after the padding of its address, of n bytes at offset o (rule 2)
abbrev pub types_at : ℕ → ℕ → ℕ → ℕ
types_at base o n = base + padded (o + n + 1 - base)

-- the padding of the type text at offset o, which ends at its first NUL
abbrev pub types_padding : ℕ → List ℕ → ℕ → List ℕ
types_padding base msg o = text_padding base msg o (until_nul (drop o msg))

-- the padding of an argument: a text's and a blob's, by its range; data of another class has none (rule 4)
abbrev pub arg_padding : ℕ → List ℕ → Class → Item → List ℕ
arg_padding base msg Four item = []
arg_padding base msg Eight item = []
arg_padding base msg Bare item = []
arg_padding base msg String item = text_padding base msg item.a item.b
arg_padding base msg Blob item = padding_at base msg (item.a + item.b)
arg_padding base msg Scalar item = []
arg_padding base msg Unknown item = []

-- "reading text or a blob now also answers how many padding bytes were not zero": the padding of a text that is read at the front of l,
-- which stands at position p of its frame, is the bytes after its NUL, up to where it ends
abbrev pub TextPadded : Type 0
TextPadded =
    (base p : ℕ) (msg l later : List ℕ) (n used : ℕ) → drop (base + p) msg ≡ l ++ later → read_text l p ≡ Found n used
    → text_padding base msg (base + p) n ≡ take (used - (n + 1)) (drop (n + 1) l)

-- and that of a blob is the bytes after its own, which follow its size of 4 bytes
abbrev pub BlobPadded : Type 0
BlobPadded =
    (tag base p : ℕ) (msg l later : List ℕ) (item : Item) (used : ℕ) → drop (base + p) msg ≡ l ++ later
    → read_arg tag Blob base l p ≡ Given item used
    → arg_padding base msg Blob item ≡ take (used - (4 + item.b)) (drop (4 + item.b) l)

-- what a node has itself: a message the padding of its address and of its type text, a bundle that of "#bundle", which has 7 bytes
abbrev pub own_padding : ℕ → List ℕ → Item → List ℕ
own_padding base msg item =
    cond (eqb item.kind message_kind)
    (text_padding base msg item.a item.b ++ types_padding base msg (types_at base item.a item.b))
    (cond (eqb item.kind bundle_kind) (text_padding base msg item.start 7) (arg_padding base msg (class_of item.kind) item))

-- "the counts of what they keep": the padding of every node of the trees
unfoldable pub kept_padding : ℕ → List ℕ → Forest → List ℕ
kept_padding base msg nil = []
kept_padding base msg (node item inside rest) = own_padding base msg item ++ (kept_padding base msg inside ++ kept_padding base msg rest)

-- the packets of a call: a frame's prefix stands 4 bytes before its packet; a UDP packet stands at 0, has none, and 0 - 4 is 0
unfoldable pub packets_padding : List ℕ → Forest → List ℕ
packets_padding msg nil = []
packets_padding msg (node item inside rest) = kept_padding (item.start - 4) msg (node item inside nil) ++ packets_padding msg rest

-- "the total comes with every accepted packet, for a list the sum": how many of these bytes are not zero
abbrev pub dirty_in : List ℕ → Forest → ℕ
dirty_in msg f = non_zero (packets_padding msg f)

-- how many places for padding an argument has: a text and a blob one
abbrev pub arg_pads : Class → ℕ
arg_pads Four = 0
arg_pads Eight = 0
arg_pads Bare = 0
arg_pads String = 1
arg_pads Blob = 1
arg_pads Scalar = 0
arg_pads Unknown = 0

-- how many a node has itself: a message two, as it has two texts, its address and its type text; a bundle that of "#bundle"
abbrev pub pads_of : Item → ℕ
pads_of item = cond (eqb item.kind message_kind) 2 (cond (eqb item.kind bundle_kind) 1 (arg_pads (class_of item.kind)))

-- how many texts, blobs and "#bundle" the trees keep
unfoldable pub pads : Forest → ℕ
pads nil = 0
pads (node item inside rest) = pads_of item + pads inside + pads rest

-- every byte of a list is 0
abbrev pub AllZero : List ℕ → Type 0
AllZero l = (i : ℕ) → i < length l → get_or l i 0 ≡ 0
