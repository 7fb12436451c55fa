-- How long the data of an argument is, and that it is a multiple of four bytes.
use mathlib.Core.Path.{◌≡◌, refl}
use mathlib.Core.List.{List, ◌++◌}
use Prim.Native.Nat.{ℕ, ◌%◌}
use native.Mathlib.Omega.{arith}
use lib.ListN.{length, length-append, length-replicate}
use Rattle.wire.proofs.Numbers.{length-bytes}
use Rattle.node.specs.declared.tags.Class.{Class}
use Rattle.node.specs.declared.tags.Class.TheVariants.{Four, Eight, Bare, Text, Blob, Scalar, Unknown}
use Rattle.wire.specs.Part.{part}
use Rattle.node.specs.declared.record.Item.{Item}
use Rattle.strings.specs.Atomic.{int32, osc_string, osc_blob, write_argument}
use Rattle.strings.specs.CodeStrings.{string_length, blob_length}

-- how long an OSC-string is
pub length-string : (text : List ℕ) → length (osc_string text) ≡ string_length (length text)
unfolding osc_string
length-string text = simp (length-append, length-replicate)

-- how long an OSC-blob is
pub length-blob : (content : List ℕ) → length (osc_blob content) ≡ blob_length (length content)
unfolding osc_blob
length-blob content = simp (length-append, length-bytes, length-replicate) (omega arith)

-- two parts that are multiples of four
pub both-even : (x y : List ℕ) → length x % 4 ≡ 0 → length y % 4 ≡ 0 → length (x ++ y) % 4 ≡ 0
both-even x y p q = simp length-append (omega arith)

-- an OSC-string is a multiple of four bytes long
pub string-even : (text : List ℕ) → length (osc_string text) % 4 ≡ 0
string-even text = rw length-string (omega arith)

number-even : (x : ℕ) → length (int32 x) % 4 ≡ 0
number-even x = rw length-bytes refl

-- an argument's data is a multiple of four bytes long
pub argument-even : (class : Class) (source : List ℕ) (item : Item) → length (write_argument class source item) % 4 ≡ 0
argument-even Four source item = number-even item.a
argument-even Eight source item = both-even (int32 item.a) (int32 item.b) (number-even item.a) (number-even item.b)
argument-even Bare source item = refl
argument-even Text source item = string-even (part source item.a item.b)
argument-even Blob source item = rw length-blob (omega arith)
argument-even Scalar source item = number-even item.a
argument-even Unknown source item = refl
