-- What the calls of this crate answer, in the words of the definitions: values of std's Result and Option.
use Rattle.std.specs.Prelude.{Result, ℕ}
use Rattle.refusal.specs.declared.Refusal.{Refusal}

-- what is known of a packet before a byte of it is written: its length, which is at most 65,535, or the refusal
abbrev pub Prepared : Type 0
Prepared = Result ℕ Refusal
