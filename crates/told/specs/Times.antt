-- What is told of a clock conversion (Ticket 7): a number, and what is written through the pointer.
use Rattle.std.specs.Prelude.{ℕ, ◌*◌, ℤ, pos, Err, Ok}
use Rattle.clock.specs.Clock.{clock_number}
use Rattle.clock.specs.declared.OutOfRange.{OutOfRange}
use Rattle.clock.specs.Results.{Tagged, Unix}

-- a refusal: its number in bits 56 to 63, and nothing below
abbrev pub outside_number : OutOfRange → ℕ
outside_number r = clock_number r * 0x100_0000_0000_0000

-- `tag_of`: 0, or the refusal
abbrev pub tagged_number : Tagged → ℕ
tagged_number (Ok t) = 0
tagged_number (Err r) = outside_number r

-- the tag, and 0 where refused
abbrev pub tagged_beside : Tagged → ℕ
tagged_beside (Ok t) = t
tagged_beside (Err r) = 0

-- `unix_of`: the nanoseconds in bits 0 to 31, or the refusal
abbrev pub unix_number : Unix → ℕ
unix_number (Ok time) = time.nanos
unix_number (Err r) = outside_number r

-- the seconds, and 0 where refused
abbrev pub unix_beside : Unix → ℤ
unix_beside (Ok time) = time.seconds
unix_beside (Err r) = pos 0
