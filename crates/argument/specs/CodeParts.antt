-- Describes code, and no part of the document: a part of the input, and where in the part of an argument its padding begins.
use Rattle.std.specs.Prelude.{◌≡◌, List, ◌++◌, ℕ, ◌+◌, ◌-◌, take, drop}
use Rattle.node.specs.Forest.{Forest}
use Rattle.node.specs.declared.record.Item.{Item}
use Rattle.node.specs.declared.tags.Class.{Class}
use Rattle.node.specs.declared.tags.Class.TheVariants.{Four, Eight, Bare, Text as String, Blob, Scalar, Unknown}
use Rattle.text.specs.Text.{non_zero}
use Rattle.argument.specs.Dirt.{kept_padding}

-- the bytes l stand at offset o of the input
abbrev pub StandsAt : List ℕ → ℕ → List ℕ → Type 0
StandsAt msg o l = (later : List ℕ) × (drop o msg ≡ l ++ later)

-- the bytes of l from n on, up to the first `used`
abbrev pub between : ℕ → ℕ → List ℕ → List ℕ
between n used l = take (used - n) (drop n l)

-- where the padding of an argument begins, in its part: a text's after its NUL, a blob's after its bytes; where there is none, at the end
abbrev pub padding_from : Class → Item → ℕ → ℕ
padding_from Four item used = used
padding_from Eight item used = used
padding_from Bare item used = used
padding_from String item used = item.b + 1
padding_from Blob item used = 4 + item.b
padding_from Scalar item used = used
padding_from Unknown item used = used

-- how many padding bytes of what trees keep are not zero, by the frame in which they stand
abbrev pub dirt_of : ℕ → List ℕ → Forest → ℕ
dirt_of base msg f = non_zero (kept_padding base msg f)
