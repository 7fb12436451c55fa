-- Describes code, and no part of the document: how long texts and blobs are as they are written, and which arguments have a range.
use Rattle.std.specs.Prelude.{Bool, true, false, ℕ, ◌+◌, ◌-◌, ◌%◌}
use Rattle.node.specs.declared.tags.Class.{Class}
use Rattle.node.specs.declared.tags.Class.TheVariants.{Four, Eight, Bare, Text, Blob, Scalar, Unknown}

-- how long an OSC-string of n characters is
abbrev pub string_length : ℕ → ℕ
string_length n = n + (4 - n % 4)

-- how long an OSC-blob of n bytes is
abbrev pub blob_length : ℕ → ℕ
blob_length n = 4 + n + (4 - n % 4) % 4

-- an argument whose two numbers are a range of the source
abbrev pub has_range : Class → Bool
has_range Four = false
has_range Eight = false
has_range Bare = false
has_range Text = true
has_range Blob = true
has_range Scalar = false
has_range Unknown = false
