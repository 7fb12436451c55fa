-- What the calls of this crate answer, in the words of the definitions: values of std's Result and Option.
use Rattle.std.specs.Prelude.{Result, ℕ}
use Rattle.refusal.specs.declared.Refusal.{Refusal}

-- what `pad` answers: a padded position, or the refusal
abbrev pub Padded : Type 0
Padded = Result ℕ Refusal
