-- A word as a time tag: exactly 16 hexadecimal digits, which are its 64 bits.
use Rattle.std.specs.Prelude.{Option, Some, None, cond, List, [], ◌∷◌, ℕ, ◌+◌, ◌*◌, ◌-◌, eqb, ltb, length}
use Rattle.words.specs.Numeral.{digit_of}

-- the value of a digit, 'a' to 'f' (97 to 102) among them; 16 for a byte that is none
unfoldable pub hex_of : ℕ → ℕ
hex_of byte = cond (ltb byte 97) (digit_of byte) (cond (ltb byte 103) (byte - 87) 16)

-- what digits, from left to right, make of the number before them
unfoldable pub hex_more : List ℕ → ℕ → Option ℕ
hex_more [] x = Some x
hex_more (byte ∷ word) x = cond (eqb (hex_of byte) 16) None (hex_more word (x * 16 + hex_of byte))

-- the tag of a word
unfoldable pub tag_in : List ℕ → Option ℕ
tag_in word = cond (eqb (length word) 16) (hex_more word 0) None
