-- Describes code, and no part of the document: which classes `read_checked` reads.
use Rattle.node.specs.declared.tags.Class.{Class}
use Rattle.node.specs.declared.tags.Class.TheVariants.{Four, Eight, Bare, Text as String, Blob, Scalar, Unknown}

-- a class whose data is more than bytes as they are
abbrev pub Checked : Class → Type 0
Checked Four = ⊥
Checked Eight = ⊥
Checked Bare = ⊥
Checked String = Unit {0}
Checked Blob = Unit {0}
Checked Scalar = Unit {0}
Checked Unknown = Unit {0}
