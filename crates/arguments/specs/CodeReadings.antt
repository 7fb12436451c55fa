-- Describes code, and no part of the document: what the two readings of a message's arguments answer and need, from what `read_args`
-- says.
use Rattle.std.specs.Prelude.{◌≡◌, List, ℕ, Err}
use Rattle.node.specs.Forest.{Forest, nil, size, depth}
use Rattle.node.specs.Records.{TableRoom}
use Rattle.scan.specs.CodeScans.{scan, back}
use Rattle.arguments.specs.Results.{Kept, Measured}
use Rattle.scan.specs.Results.{Used}
use Rattle.scan.specs.declared.Back.{Back}
use Rattle.scan.specs.declared.Back.TheVariants.{Uncut, Cut}
use Rattle.arguments.specs.Arguments.{Args, refused, args}

-- the first reading: how many records the kept arguments take, how deep arrays are nested in them, how many bytes were read, and how much
-- dirt the kept ones have; or the fault
unfoldable pub measured : (Forest → ℕ) → Args → Measured
measured dirt (refused fault) = Err fault
measured dirt (args kept used) = Kept (size kept) (depth kept) used (dirt kept)

-- a count that leaves dirt out
abbrev pub no_dirt : Forest → ℕ
no_dirt f = 0

-- what tags keep by the backward look, of so many bytes and so much dirt
abbrev pub keeping : Back → ℕ → ℕ → Measured
keeping (Uncut closed count depth) used dirty = Kept count depth used dirty
keeping (Cut first count depth) used dirty = Kept count depth used dirty

-- the arguments that are kept; the first line is never met where records are written, by the field `accepted` of `ArgsRoom`
abbrev pub kept_of : Args → Forest
kept_of (refused fault) = nil
kept_of (args kept used) = kept

-- the arguments are not refused
abbrev pub ArgsAccepted : Args → Type 0
ArgsAccepted (refused fault) = ⊥
ArgsAccepted (args kept used) = Unit {0}

-- what the second reading needs: accepted arguments, and room for their records from `index` on
pub record ArgsRoom (o : Args) (index : ℕ) (table : List ℕ) : Type 0 where
  pub accepted : ArgsAccepted o
  pub room : TableRoom (kept_of o) index table

-- the last array that stays open is opened by the last of the first n tags
abbrev pub CutAfter : ℕ → List ℕ → Type 0
CutAfter n tags = (count depth : ℕ) × (Cut n count depth ≡ back tags)

-- the forward scan accepts tags and data
abbrev pub ScanAccepts : List ℕ → List ℕ → ℕ → Type 0
ScanAccepts tags l p = (used dirty : ℕ) × (Used used dirty ≡ scan tags l p 0)

-- and finds so much dirt
abbrev pub Scans : ℕ → List ℕ → List ℕ → ℕ → Type 0
Scans dirty tags l p = (used : ℕ) × (Used used dirty ≡ scan tags l p 0)
