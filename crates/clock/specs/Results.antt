-- What the calls of this crate answer, in the words of the definitions: values of std's Result and Option.
use Rattle.std.specs.Prelude.{Result, Ok, ℕ, ℤ}
use Rattle.clock.specs.declared.OutOfRange.{OutOfRange}
use Rattle.clock.specs.declared.UnixTime.{UnixTime}

-- a tag, or why there is none
abbrev pub Tagged : Type 0
Tagged = Result ℕ OutOfRange

-- a Unix time, or why there is none
abbrev pub Unix : Type 0
Unix = Result UnixTime OutOfRange

-- so many seconds and nanoseconds
abbrev pub At : ℤ → ℕ → Unix
At seconds nanos = Ok (record { seconds = seconds; nanos = nanos })
