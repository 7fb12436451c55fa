-- Names as the system reads them.
use Rattle.std.specs.Prelude.{◌≡◌, List, ℕ, slice_index_or}

-- the last of a name's 4,096 bytes is 0, so that the name ends before it
abbrev pub Ended : List ℕ → Type 0
Ended bytes = slice_index_or bytes 4095 1 ≡ 0
