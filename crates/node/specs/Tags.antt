-- The tags of document 01, "The node table": what the kind of an argument, which is also its type tag, stands for.
use Rattle.std.specs.Prelude.{Bool, false, cond, ◌||◌, ◌&&◌, List, [], ◌∷◌, ℕ, eqb, leb, ltb}
use Rattle.node.specs.declared.tags.Class.{Class}
use Rattle.node.specs.declared.tags.Class.TheVariants.{Four, Eight, Bare, Text, Blob, Scalar, Unknown}
use Rattle.node.specs.declared.tags.Sort.{Sort}
use Rattle.node.specs.declared.tags.Sort.TheVariants.{Opens, Closes, Leaf}

-- the kind of a message: /
abbrev pub message_kind : ℕ
message_kind = 47

-- the kind of a bundle: #
abbrev pub bundle_kind : ℕ
bundle_kind = 35

-- the kind of an array, and the tag that opens one: [
abbrev pub array_kind : ℕ
array_kind = 91

-- a tag is one of a list
abbrev pub among : ℕ → List ℕ → Bool
among t [] = false
among t (x ∷ xs) = eqb t x || among t xs

-- the data by tag: f i m r; d h t; F I N T; s; b; c; any other is refusal 7 (the table of kinds, and refusal 7)
unfoldable pub class_of : ℕ → Class
class_of t =
    cond (among t (102 ∷ 105 ∷ 109 ∷ 114 ∷ [])) Four
    (cond (among t (100 ∷ 104 ∷ 116 ∷ [])) Eight
    (cond (among t (70 ∷ 73 ∷ 78 ∷ 84 ∷ [])) Bare
    (cond (eqb t 115) Text
    (cond (eqb t 98) Blob
    (cond (eqb t 99) Scalar Unknown)))))

-- [ opens and ] closes an array (rule 3)
unfoldable pub sort_of : ℕ → Sort
sort_of t = cond (eqb t array_kind) Opens (cond (eqb t 93) Closes (Leaf (class_of t)))

-- a scalar number: at most 1,114,111 and outside 55,296 to 57,343 (the well-formed table's rule for c)
abbrev pub is_scalar : ℕ → Bool
is_scalar x = ltb x 55296 || (leb 57344 x && leb x 1114111)
