-- The name of the file that is written first.
use Rattle.std.specs.Prelude.{List, [], ◌∷◌, ◌++◌, ℕ}

-- ".part"
abbrev pub dot_part : List ℕ
dot_part = 46 ∷ 112 ∷ 97 ∷ 114 ∷ 116 ∷ []

-- a name, ".part" and digits
abbrev pub beside_name : List ℕ → List ℕ → List ℕ
beside_name path digits = (path ++ dot_part) ++ digits

-- the length of the longest name that leaves room for ".part" and 16 digits in a path, which has at most 4,095 bytes
abbrev pub longest_name : ℕ
longest_name = 4074

-- how long ".part" and 16 digits are
abbrev pub suffix_length : ℕ
suffix_length = 21
