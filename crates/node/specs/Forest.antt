-- The tree of a packet, and the trees of a list: document 01, "The node table".
use Rattle.std.specs.Prelude.{Bool, cond, [], ◌∷◌, ℕ, ◌+◌, max}
use Rattle.node.specs.Tags.{bundle_kind, array_kind, among}
use Rattle.node.specs.declared.record.Item.{Item}

-- trees side by side: the first node's own numbers, what it contains, and the nodes that stand after it
pub data Forest : Type 0 where
  nil : Forest
  node : (item : Item) (inside rest : Forest) → Forest

-- how many nodes there are: the count of records
unfoldable pub size : Forest → ℕ
size nil = 0
size (node item inside rest) = 1 + size inside + size rest

-- what is a level: "bundles and arrays together" (Ticket 4)
abbrev pub is_level : ℕ → Bool
is_level kind = among kind (bundle_kind ∷ array_kind ∷ [])

-- a node whose content is d deep: a level is one more; a message adds none, and hands on what is in it (Ticket 4)
abbrev pub level : ℕ → ℕ → ℕ
level kind d = cond (is_level kind) (d + 1) d

-- how deep bundles and arrays are nested "along any path" of the trees (Ticket 4): what refusal 9 speaks of
unfoldable pub depth : Forest → ℕ
depth nil = 0
depth (node item inside rest) = max (level item.kind (depth inside)) (depth rest)

-- the forest with one node more at its end
unfoldable pub snoc : Forest → Item → Forest → Forest
snoc nil item inside = node item inside nil
snoc (node item' inside' rest) item inside = node item' inside' (snoc rest item inside)
