-- One number for all bytes of a slice.
use Rattle.std.specs.Prelude.{ℕ, ◌+◌, ◌*◌, ◌%◌, List, [], ◌∷◌}

-- what the bytes, from left to right, make of a sum: 257 times it and the byte, by the greatest prime below 2^32
unfoldable pub sum_of : List ℕ → ℕ → ℕ
sum_of [] s = s
sum_of (b ∷ bs) s = sum_of bs ((s * 257 + b) % 4294967291)
