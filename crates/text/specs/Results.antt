-- What the calls of this crate answer, in the words of the definitions: values of std's Result and Option.
use Rattle.std.specs.Prelude.{Result, Ok, ℕ}
use Rattle.text.specs.declared.FoundText.{FoundText}
use Rattle.text.specs.declared.Lack.{Lack}

-- what reading a text gives: the text, or what it lacks
abbrev pub Text : Type 0
Text = Result FoundText Lack

-- a text of n bytes that takes so many of the input, NUL and padding with it
abbrev pub Found : ℕ → ℕ → Text
Found n used = Ok (record { length = n; used = used })
