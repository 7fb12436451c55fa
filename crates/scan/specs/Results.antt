-- What the calls of this crate answer, in the words of the definitions: values of std's Result and Option.
use Rattle.std.specs.Prelude.{Result, Ok, ℕ}
use Rattle.refusal.specs.declared.Fault.{Fault}
use Rattle.scan.specs.declared.ScannedArgs.{ScannedArgs}

-- what tags take, or the fault
abbrev pub Scanned : Type 0
Scanned = Result ScannedArgs Fault

-- so many bytes of data, and so many bytes of its padding that are not zero
abbrev pub Used : ℕ → ℕ → Scanned
Used used dirty = Ok (record { used = used; dirty = dirty })
