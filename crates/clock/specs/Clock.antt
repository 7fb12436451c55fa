-- Clock conversion: document 02, Ticket 7. A tag is seconds * 2^32 + fractions, below 2^64; a Unix time is signed seconds and nanoseconds.
use Rattle.std.specs.Prelude.{ℕ, ◌+◌, ◌-◌, ◌*◌, ◌/◌, ◌%◌, ◌^◌, cond, ℤ, pos, ◌+ℤ◌, int_lt, nat_le, nat_lt, unsigned_abs, Err, Ok}
use Rattle.clock.specs.Nearest.{fraction_of, nanos_of}
use Rattle.clock.specs.declared.Rule.{Rule}
use Rattle.clock.specs.declared.Rule.TheVariants.{A, B}
use Rattle.clock.specs.declared.OutOfRange.{OutOfRange}
use Rattle.clock.specs.declared.OutOfRange.TheVariants.{Nanoseconds, TooLate, TooEarly}
use Rattle.clock.specs.Results.{Tagged, Unix}
use Rattle.clock.specs.Results as Unix

-- "26 nanoseconds of 10^9 or more, 27 later than the rule allows, 28 before 1970 after any carry"
abbrev pub clock_number : OutOfRange → ℕ
clock_number Nanoseconds = 26
clock_number TooLate = 27
clock_number TooEarly = 28

-- the seconds from 1900, where a tag begins to count, to 1970
abbrev pub epoch : ℕ
epoch = 2_208_988_800

-- "Unix seconds up to 2,085,978,495" and "up to 4,233,462,143"
abbrev pub last_of : Rule → ℕ
last_of A = 2_085_978_495
last_of B = 4_233_462_143

-- the seconds since 1900 that a seconds field stands for: "a seconds field with its top bit clear is after the 2036 wrap"
abbrev pub since1900 : Rule → ℕ → ℕ
since1900 A field = field
since1900 B field = cond (nat_lt field (2 ^ 31)) (field + 2 ^ 32) field

-- "A fraction that rounds to a full second carries"
abbrev pub carried : ℤ → ℕ → ℤ
carried seconds nanos = seconds +ℤ pos (fraction_of nanos / 2 ^ 32)

-- the tag of seconds since 1900, of which its field has the lowest 32 bits, and a fraction
abbrev pub tag_at : ℕ → ℕ → ℕ
tag_at seconds fraction = seconds % 2 ^ 32 * 2 ^ 32 + fraction

-- what `tag_of` answers, the refusals "in that order"
unfoldable pub tag_for : Rule → ℤ → ℕ → Tagged
tag_for rule seconds nanos =
    cond (nat_le 1_000_000_000 nanos) (Err Nanoseconds)
    (cond (int_lt (pos (last_of rule)) seconds) (Err TooLate)
    (cond (int_lt (carried seconds nanos) (pos 0)) (Err TooEarly)
    (Ok (tag_at (unsigned_abs (carried seconds nanos) + epoch) (fraction_of nanos % 2 ^ 32)))))

-- the nanoseconds of a tag's fraction, a full second among them
abbrev pub rounded_of : ℕ → ℕ
rounded_of tag = nanos_of (tag % 2 ^ 32)

-- the seconds of a tag since 1900, with the carry
abbrev pub seconds_of : Rule → ℕ → ℕ
seconds_of rule tag = since1900 rule (tag / 2 ^ 32) + rounded_of tag / 1_000_000_000

-- what `unix_of` answers: "a tag on its way to Unix time is never refused by 27"
unfoldable pub unix_for : Rule → ℕ → Unix
unix_for rule tag =
    cond (nat_lt (seconds_of rule tag) epoch) (Err TooEarly)
    (Unix.At (pos (seconds_of rule tag - epoch)) (rounded_of tag % 1_000_000_000))

-- what comes back of a Unix time by way of its tag, by Ticket 7: the same time, or the refusal
abbrev pub back_from : ℤ → ℕ → Tagged → Unix
back_from seconds nanos (Ok tag) = Unix.At seconds nanos
back_from seconds nanos (Err reason) = Err reason

-- by a rule
abbrev pub returned : Rule → ℤ → ℕ → Unix
returned rule seconds nanos = back_from seconds nanos (tag_for rule seconds nanos)
