-- The words in which OSC 1.0's texts and addresses are spoken of, in bytes and in trees.
use Rattle.std.specs.Prelude.{◌≡◌, cond, List, [], ◌∷◌, ℕ, ◌<◌, eqb, get_or}
use Rattle.wire.specs.Part.{part}
use Rattle.node.specs.Forest.{Forest, nil, node}
use Rattle.node.specs.Tags.{message_kind}
use Rattle.node.specs.declared.record.Item.{Item}

-- every element of a list is a byte
abbrev pub Bytes : List ℕ → Type 0
Bytes l = (i : ℕ) → get_or l i 0 < 256

-- no NUL in a text
unfoldable pub NoNul : List ℕ → Type 0
NoNul [] = Unit {0}
NoNul (x ∷ text) = (x ≡ 0 → ⊥) × NoNul text

-- the character '/'
abbrev pub slash : ℕ
slash = 47

-- the bytes that the range of a node names in its source
abbrev pub bytes_named : List ℕ → Item → List ℕ
bytes_named source item = part source item.a item.b

-- "'/'-led addresses, no NUL in text or address": of one node
unfoldable pub CleanNode : List ℕ → Item → Type 0
CleanNode source item =
    cond (eqb item.kind message_kind) ((get_or (bytes_named source item) 0 0 ≡ slash) × NoNul (bytes_named source item))
    (cond (eqb item.kind 115) (NoNul (bytes_named source item)) (Unit {0}))

-- the same of every node
unfoldable pub Clean : List ℕ → Forest → Type 0
Clean source nil = Unit {0}
Clean source (node item inside rest) = CleanNode source item × Clean source inside × Clean source rest
