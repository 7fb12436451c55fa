-- Offsets and lengths of files.
use Rattle.std.specs.Prelude.{Bool, true, false, cond, ℕ, eqb, ltb, ℤ, pos, negsuc}

-- an offset as the system has it: below 2^63 itself, and else none
unfoldable pub place_of : ℕ → ℤ
place_of offset = cond (ltb offset 9223372036854775808) (pos offset) (negsuc 0)

-- a file ended before its last byte
abbrev pub ends_early : ℕ → ℕ → Bool → Bool
ends_early size total ended = cond ended (ltb total size) false

-- a file that had `size` bytes and has `now` has lost some: it ended after fewer, or it has fewer, or fewer than were read of it; one whose
-- length the system does not tell (0) has lost none
unfoldable pub has_lost : ℕ → ℕ → ℕ → Bool → Bool
has_lost size now total ended =
    cond (eqb size 0) false (cond (ends_early size total ended) true (cond (ltb now size) true (ltb now total)))
