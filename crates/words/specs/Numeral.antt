-- A word as a number: at least one decimal digit and nothing else, and a value of at most 64 bits.
use Rattle.std.specs.Prelude.{Option, Some, None, cond, List, [], ◌∷◌, ℕ, ◌+◌, ◌*◌, ◌-◌, ltb}

-- the value of a digit, '0' to '9' (48 to 57) or 'A' to 'F' (65 to 70); 16 for a byte that is none
unfoldable pub digit_of : ℕ → ℕ
digit_of byte =
    cond (ltb byte 48) 16 (cond (ltb byte 58) (byte - 48) (cond (ltb byte 65) 16 (cond (ltb byte 71) (byte - 65 + 10) 16)))

-- the same as an answer: none for a byte that is none
unfoldable pub digit_in : ℕ → Option ℕ
digit_in byte = cond (ltb (digit_of byte) 16) (Some (digit_of byte)) None

-- x, where it is at most 2^64 - 1
abbrev pub within64 : ℕ → Option ℕ
within64 x = cond (ltb 0xffff_ffff_ffff_ffff x) None (Some x)

-- the number that the byte, a digit to 9, makes of x
abbrev pub appended_to : ℕ → ℕ → Option ℕ
appended_to x byte = cond (ltb 9 (digit_of byte)) None (within64 (x * 10 + digit_of byte))

-- the same of what may be no number, which a digit does not mend
abbrev pub one_more : Option ℕ → ℕ → Option ℕ
one_more None byte = None
one_more (Some x) byte = appended_to x byte

-- what the bytes of a word, from left to right, make of the number before them
unfoldable pub all_more : List ℕ → Option ℕ → Option ℕ
all_more [] x = x
all_more (byte ∷ word) x = all_more word (one_more x byte)

-- a word of no bytes is no number
unfoldable pub numeral_of : List ℕ → Option ℕ
numeral_of [] = None
numeral_of (byte ∷ word) = all_more (byte ∷ word) (Some 0)
