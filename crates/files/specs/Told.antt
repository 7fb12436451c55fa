-- What a write tells of the name that it was given.
use Rattle.std.specs.Prelude.{Result, Ok, Err, ⊤, List, ℕ, ◌≤◌, ◌<◌, length}
use Rattle.std.specs.declared.fs.File.{File}
use Rattle.files.specs.Beside.{longest_name}
use Rattle.files.specs.declared.places.Refused.{Refused}
use Rattle.files.specs.declared.places.Refused.TheVariants.{LongName, NoFile, Unfit, Failed}

-- a place is not refused for the length of its name
abbrev pub OfPlace : Refused → Type 0
OfPlace LongName = ⊥
OfPlace NoFile = Unit {0}
OfPlace (Unfit trouble size) = Unit {0}
OfPlace Failed = Unit {0}

-- a name is refused for its length just where it leaves no room for that of the file beside it
abbrev pub ToldRefused : List ℕ → Refused → Type 0
ToldRefused path LongName = longest_name < length path
ToldRefused path NoFile = length path ≤ longest_name
ToldRefused path (Unfit trouble size) = length path ≤ longest_name
ToldRefused path Failed = length path ≤ longest_name

-- a name is too long just where it leaves no room for that of the file beside it
abbrev pub ToldName : List ℕ → Result ⊤ Refused → Type 0
ToldName path (Ok stored) = length path ≤ longest_name
ToldName path (Err refused) = ToldRefused path refused

-- the same of a file that is begun
abbrev pub ToldBegun : List ℕ → Result (File × ℕ) Refused → Type 0
ToldBegun path (Ok begun) = length path ≤ longest_name
ToldBegun path (Err refused) = ToldRefused path refused
