-- An OSC string: document 01, "How bytes are read", rule 1.
use Rattle.std.specs.Prelude.{cond, List, [], ◌∷◌, ℕ, suc, ◌+◌, ◌-◌, eqb, leb, ltb, length, take, Err}
use Rattle.refusal.specs.declared.Fault.{Fault}
use Rattle.refusal.specs.declared.Fault.TheVariants.{Short, NotUtf8}
use Rattle.refusal.specs.declared.Field.{Field}
use Rattle.refusal.specs.declared.Field.TheVariants as fields
use Rattle.wire.specs.Pad.{padded}
use Rattle.utf8.specs.Derive.{utf8}
use Rattle.text.specs.Results.{Found, Text}
use Rattle.text.specs.declared.Lack.{Lack}
use Rattle.text.specs.declared.Lack.TheVariants.{Nul, Padding, Utf8}

-- how many bytes stand before the first NUL ("bytes up to the first NUL"); all of them where there is none
abbrev pub until_nul : List ℕ → ℕ
until_nul [] = 0
until_nul (b ∷ l) = cond (eqb b 0) 0 (suc (until_nul l))

-- how many bytes lie between p and the first multiple of 4 that is n bytes or more after it ("then padding until the position is
-- a multiple of 4")
abbrev pub reach : ℕ → ℕ → ℕ
reach p n = padded (p + n) - p

-- the text at the front of l, which stands at position p: a missing NUL or padding comes before the UTF-8 test; padding begins after the
-- NUL (Ticket 2)
unfoldable pub read_text : List ℕ → ℕ → Text
read_text l p =
    cond (ltb (until_nul l) (length l))
    (cond (leb (reach p (until_nul l + 1)) (length l))
    (cond (utf8 (take (until_nul l) l)) (Found (until_nul l) (reach p (until_nul l + 1))) (Err Utf8))
    (Err (Padding (p + until_nul l + 1))))
    (Err Nul)

-- one for a byte that is not zero
abbrev pub dirt_of_byte : ℕ → ℕ
dirt_of_byte b = cond (eqb b 0) 0 1

-- how many of these bytes are not zero (document 02, Ticket 8: "how many padding bytes were not zero")
abbrev pub non_zero : List ℕ → ℕ
non_zero [] = 0
non_zero (b ∷ l) = dirt_of_byte b + non_zero l

-- the fault of a text at position p that is this field: "a missing NUL belongs to its text", and padding is a field of its own (Ticket 2)
abbrev pub fault_in : Field → ℕ → Lack → Fault
fault_in field p Nul = Short field p
fault_in field p (Padding at) = Short fields.Padding at
fault_in field p Utf8 = NotUtf8
