-- How far a recording is slid, as a word says it: document 02, Ticket 13, "BY: signed seconds, with a fraction, or `hex:` and 16 digits".
use Rattle.std.specs.Prelude.{Option, Some, None, ℕ, ◌+◌, ◌-◌, ◌*◌, ◌%◌, ◌^◌, cond, List, [], ◌∷◌, take, drop, nat_le}
use Rattle.wire.specs.Same.{same_bytes}
use Rattle.clock.specs.Nearest.{fraction_of}
use Rattle.time_words.specs.Tags.{tag_in}
use Rattle.time_words.specs.Seconds.{plain_of}
use Rattle.time_words.specs.declared.seconds.Plain.{Plain}

-- seconds below 2^32, and the nearest fraction to nanoseconds below 10^9
abbrev pub joined_as : Option Plain → Option ℕ
joined_as None = None
joined_as (Some p) =
    cond (nat_le p.seconds 0xffff_ffff) (cond (nat_le p.nanos 999_999_999) (Some (p.seconds * 2 ^ 32 + fraction_of p.nanos)) None) None

-- the opposite, modulo 2^64
abbrev pub opposite_of : Option ℕ → Option ℕ
opposite_of None = None
opposite_of (Some x) = Some ((2 ^ 64 - x) % 2 ^ 64)

-- "hex:" (104 101 120 58) and 16 digits, or seconds after a sign (45) or without one
unfoldable pub amount_of : List ℕ → Option ℕ
amount_of word =
    cond (same_bytes (take 4 word) (104 ∷ 101 ∷ 120 ∷ 58 ∷ [])) (tag_in (drop 4 word))
    (cond (same_bytes (take 1 word) (45 ∷ [])) (opposite_of (joined_as (plain_of (drop 1 word)))) (joined_as (plain_of word)))
