-- The line for a time: the Unix time, the tag and the UTC date (document 02, Ticket 7), or the refusal.
use Rattle.std.specs.Prelude.{Option, Some, None, Ok, Err, List, [], ◌∷◌, ℕ, ◌+◌, ◌*◌, ◌/◌, ◌%◌, ℤ, nat_abs}
use Prim.Native.String.{String}
use Rattle.clock.specs.Clock.{clock_number, tag_for, unix_for}
use Rattle.clock.specs.declared.Rule.{Rule}
use Rattle.clock.specs.declared.OutOfRange.{OutOfRange}
use Rattle.clock.specs.Results.{Tagged, Unix}
use Rattle.values.specs.Results.{Looked}
use Rattle.dates.specs.Dates.{date_of}
use Rattle.dates.specs.declared.Date.{Date}
use Rattle.telling.specs.Forms.{line}
use Rattle.telling.specs.Refusals.{numbered_line}
use Rattle.time_words.specs.declared.seconds.Moment.{Moment}
use Rattle.time_words.specs.declared.seconds.Moment.TheVariants as moment
use Rattle.values.specs.Look.{look_at}
use Rattle.values.specs.declared.value.OscTime.{OscTime}
use Rattle.values.specs.declared.value.OscType.{OscType}
use Rattle.values.specs.declared.value.OscType.TheVariants as value

-- the seconds and nine digits, the tag in hexadecimal, and the date with the time of the day
abbrev pub time_form : String
time_form = "time: %.%%%%%%%%% s, tag $$, %-%%-%%T%%:%%:%%.%%%%%%%%%Z\n"

-- two digits of a number below 100
abbrev pub two_digits : ℕ → List ℕ → List ℕ
two_digits x more = x / 10 ∷ x % 10 ∷ more

-- the nine digits of nanoseconds
abbrev pub nano_digits : ℕ → List ℕ → List ℕ
nano_digits n more =
    n / 100_000_000 ∷ n / 10_000_000 % 10 ∷ n / 1_000_000 % 10 ∷ n / 100_000 % 10 ∷ n / 10_000 % 10 ∷ n / 1_000 % 10 ∷ n / 100 % 10
    ∷ n / 10 % 10 ∷ n % 10 ∷ more

-- the numbers of a date, and of the time of a day of 86,400 seconds
abbrev pub date_numbers : Date → List ℕ → List ℕ
date_numbers d more = d.year ∷ two_digits d.month (two_digits d.day more)

abbrev pub day_numbers : ℕ → List ℕ → List ℕ
day_numbers s more = two_digits (s / 3_600) (two_digits (s / 60 % 60) (two_digits (s % 60) more))

-- all numbers of the form
abbrev pub time_numbers : Date → ℕ → ℕ → ℕ → List ℕ
time_numbers date seconds nanos tag =
    seconds
    ∷ nano_digits nanos
    (tag / 0x1_0000_0000 ∷ tag % 0x1_0000_0000 ∷ date_numbers date (day_numbers (seconds % 86_400) (nano_digits nanos [])))

-- a Unix time and its tag: 1 January 1970 is day 0
unfoldable pub time_line : ℕ → ℕ → ℕ → List ℕ
time_line seconds nanos tag = line time_form (time_numbers (date_of (seconds / 86_400)) seconds nanos tag) []

-- the refusal of a time
abbrev pub out_of_range : OutOfRange → List ℕ
out_of_range reason = numbered_line (clock_number reason) 0

-- a tag and its Unix time
abbrev pub with_unix : ℕ → Unix → List ℕ
with_unix tag (Ok time) = time_line (nat_abs time.seconds) time.nanos tag
with_unix tag (Err reason) = out_of_range reason

-- a Unix time and its tag
abbrev pub with_tag : ℤ → ℕ → Tagged → List ℕ
with_tag seconds nanos (Ok tag) = time_line (nat_abs seconds) nanos tag
with_tag seconds nanos (Err reason) = out_of_range reason

-- what is said of a tag, by a rule
abbrev pub tag_line : Rule → ℕ → List ℕ
tag_line rule tag = with_unix tag (unix_for rule tag)

-- what `osc time` says
abbrev pub moment_line : Rule → Moment → List ℕ
moment_line rule (moment.Tag tag) = tag_line rule tag
moment_line rule (moment.Unix seconds nanos) = with_tag seconds nanos (tag_for rule seconds nanos)

-- the 64 bits of a time tag
abbrev pub tag_bits : OscTime → ℕ
tag_bits t = t.seconds * 0x1_0000_0000 + t.fractional

-- the time of a value: a time tag and a bundle have one
abbrev pub time_in : OscType → Option ℕ
time_in (value.Bundle t) = Some (tag_bits t)
time_in (value.Time t) = Some (tag_bits t)
time_in (value.Message offset n) = None
time_in (value.Int z) = None
time_in (value.Float bits x) = None
time_in (value.String offset n) = None
time_in (value.Blob offset n) = None
time_in (value.Long z) = None
time_in (value.Double bits x) = None
time_in (value.Char x) = None
time_in (value.Color c) = None
time_in (value.Midi m) = None
time_in (value.Bool x) = None
time_in value.Nil = None
time_in value.Inf = None
time_in value.Array = None

-- the line for it; none where there is no time
abbrev pub time_in_line : Rule → Option ℕ → List ℕ
time_in_line rule (Some tag) = tag_line rule tag
time_in_line rule None = []

-- what `osc look` says of a record by a rule, after its own lines: nothing where the record is refused
abbrev pub looked_time : Rule → Looked → List ℕ
looked_time rule (Ok x) = time_in_line rule (time_in x)
looked_time rule (Err refusal) = []

unfoldable pub record_time : Rule → List ℕ → ℕ → List ℕ
record_time rule table i = looked_time rule (look_at table i)
