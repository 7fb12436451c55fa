-- What the calls of this crate answer, in the words of the definitions: values of std's Result and Option.
use Rattle.std.specs.Prelude.{Option, Some, ℕ}
use Rattle.fill.specs.declared.Element.{Element}

-- what the second reading of a packet answers: nothing of one that is refused
abbrev pub Reread : Type 0
Reread = Option Element

-- so many records, and the position after its last byte
abbrev pub Wrote : ℕ → ℕ → Reread
Wrote count next = Some (record { count = count; next = next })
