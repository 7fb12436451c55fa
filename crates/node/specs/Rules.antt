-- A record's own rules, without its zero bytes, its end and its range: document 01, "The node table" and "Looking at a record".
use Rattle.std.specs.Prelude.{Bool, true, false, cond, ◌&&◌, [], ◌∷◌, ℕ, eqb}
use Rattle.node.specs.Tags.{message_kind, bundle_kind, among, sort_of, is_scalar}
use Rattle.node.specs.declared.record.Item.{Item}
use Rattle.node.specs.declared.tags.Class.{Class}
use Rattle.node.specs.declared.tags.Class.TheVariants.{Four, Eight, Bare, Text, Blob, Scalar, Unknown}
use Rattle.node.specs.declared.tags.Sort.{Sort}
use Rattle.node.specs.declared.tags.Sort.TheVariants.{Opens, Closes, Leaf}

-- both fields are zero
abbrev pub zero_fields : Item → Bool
zero_fields item = eqb item.a 0 && eqb item.b 0

-- the fields of an argument that is no array ("zero fields, and for c a scalar number")
abbrev pub leaf_rules : Class → Item → Bool
leaf_rules Four item = eqb item.b 0
leaf_rules Eight item = true
leaf_rules Bare item = zero_fields item
leaf_rules Text item = true
leaf_rules Blob item = true
leaf_rules Scalar item = eqb item.b 0 && is_scalar item.a
leaf_rules Unknown item = false

-- the fields of an argument
abbrev pub arg_rules : Sort → Item → Bool
arg_rules Opens item = zero_fields item
arg_rules Closes item = false
arg_rules (Leaf class) item = leaf_rules class item

-- a packet's kind: # or /
abbrev pub is_packet : ℕ → Bool
is_packet kind = among kind (bundle_kind ∷ message_kind ∷ [])

-- # and / hold any two numbers; every other kind is an argument's ("every record has a kind above")
unfoldable pub own_rules : Item → Bool
own_rules item = cond (is_packet item.kind) true (arg_rules (sort_of item.kind) item)
