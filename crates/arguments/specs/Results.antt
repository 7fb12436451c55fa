-- What the calls of this crate answer, in the words of the definitions: values of std's Result and Option.
use Rattle.std.specs.Prelude.{Result, Ok, ℕ}
use Rattle.refusal.specs.declared.Fault.{Fault}
use Rattle.arguments.specs.declared.MeasuredArgs.{MeasuredArgs}

-- what the first reading of the arguments answers
abbrev pub Measured : Type 0
Measured = Result MeasuredArgs Fault

-- so many records, arrays nested so deep, so many bytes of data, and so many bytes of the kept ones' padding that are not zero
abbrev pub Kept : ℕ → ℕ → ℕ → ℕ → Measured
Kept count depth used dirty = Ok (record { count = count; depth = depth; used = used; dirty = dirty })
