-- How the reading of a table into a room ends.
use Rattle.std.specs.Prelude.{◌≡◌, List, ℕ, ◌%◌}
use Rattle.io.specs.Counts.{IsPrefixLen}
use Rattle.node.specs.Records.{record_size}
use Rattle.tool_files.specs.declared.named.Records.{Records}
use Rattle.tool_files.specs.declared.named.Records.TheVariants.{Whole, More, Failed}

-- a file of so many bytes is a table where they are whole records
abbrev pub WholeTable : ℕ → Records → Type 0
WholeTable count (Whole n) = (n ≡ count) × (n % record_size ≡ 0)
WholeTable count (More fd) = ⊥
WholeTable count Failed = Unit {0}

-- the bytes of a table are whole records that lie in the room
abbrev pub InRoom : List ℕ → Records → Type 0
InRoom room (Whole n) = IsPrefixLen n room × (n % record_size ≡ 0)
InRoom room (More fd) = Unit {0}
InRoom room Failed = Unit {0}
