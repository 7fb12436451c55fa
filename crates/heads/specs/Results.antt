-- What the calls of this crate answer, in the words of the definitions: values of std's Result and Option.
use Rattle.std.specs.Prelude.{Option, Some, None, Result, Ok, Err, ℕ}
use Rattle.heads.specs.declared.BadLength.{BadLength}
use Rattle.heads.specs.declared.BadLength.TheVariants as bad

-- the size of an element: so many bytes follow it, or there are fewer
abbrev pub ElementSize : Type 0
ElementSize = Option ℕ

-- the prefix of a frame of edition 2, whose length cuts the packet
abbrev pub Length : Type 0
Length = Result (Option ℕ) BadLength

-- the frame is all there: so many bytes follow the prefix
pattern abbrev pub Cuts : ℕ → Length
Cuts n = Ok (Some n)

-- there are fewer than 4 bytes, or fewer follow the prefix than its length counts
pattern abbrev pub Waiting : Length
Waiting = Ok None

-- the length is over 65,531
pattern abbrev pub Over : Length
Over = Err bad.Over

-- the length is no multiple of 4
pattern abbrev pub Odd : Length
Odd = Err bad.Odd
