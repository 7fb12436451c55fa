-- How many octets a character has, by its first octet: RFC 3629, section 4 (`char-length`, in proofs/Chars.antt).
use Rattle.std.specs.Prelude.{cond, ℕ, ltb}

-- UTF8-1 begins below 0x80, UTF8-2 below 0xE0, UTF8-3 below 0xF0, UTF8-4 from there; of an octet that begins no character it says nothing
-- (document 01, "How bytes are read", rule 2: the first character is skipped, however many bytes it has)
abbrev pub lead_of : ℕ → ℕ
lead_of x = cond (ltb x 0x80) 1 (cond (ltb x 0xE0) 2 (cond (ltb x 0xF0) 3 4))
