-- What the calls of this crate answer, in the words of the definitions: values of std's Result and Option.
use Rattle.std.specs.Prelude.{Result, ℕ}
use Rattle.refusal.specs.declared.Refusal.{Refusal}

-- what `shift_table` answers: how many tags were moved, or the refusal
abbrev pub Shifted : Type 0
Shifted = Result ℕ Refusal
