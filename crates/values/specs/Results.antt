-- What the calls of this crate answer, in the words of the definitions: values of std's Result and Option.
use Rattle.std.specs.Prelude.{Result, ℕ}
use Rattle.refusal.specs.declared.Refusal.{Refusal}
use Rattle.values.specs.declared.value.OscType.{OscType}

-- what `look` answers: a value, or the refusal
abbrev pub Looked : Type 0
Looked = Result OscType Refusal

-- what `start_of` answers: the offset, from the decoder's first byte, where the item's data begins, or the refusal
abbrev pub Started : Type 0
Started = Result ℕ Refusal
