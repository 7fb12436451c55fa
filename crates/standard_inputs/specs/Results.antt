-- What the calls of this crate answer, in the words of the definitions: values of std's Result and Option.
use Rattle.std.specs.Prelude.{Option, Some, None, Result, Ok, Err, ℕ}
use Rattle.refusal.specs.declared.Refusal.{Refusal}
use Rattle.refusal.specs.declared.Fault.{Fault}
use Rattle.standard_inputs.specs.declared.MeasuredFrame.{MeasuredFrame}
use Rattle.standard_inputs.specs.declared.BadFrame.{BadFrame}
use Rattle.standard_inputs.specs.declared.BadFrame.TheVariants as bad

-- what the first reading of a frame of edition 2 answers
abbrev pub CutExtent : Type 0
CutExtent = Result (Option MeasuredFrame) BadFrame

-- it is not all there
pattern abbrev pub Waiting : CutExtent
Waiting = Ok None

-- the records of its tree, the bytes of the frame, prefix included, and how many bytes of its padding are not zero
abbrev pub Tree : ℕ → ℕ → ℕ → CutExtent
Tree count next dirty = Ok (Some (record { count = count; next = next; dirty = dirty }))

-- its packet is refused; the place is told from the prefix on
pattern abbrev pub Unreadable : Fault → CutExtent
Unreadable fault = Err (bad.Unreadable fault)

-- the frame is refused: for its length, for what is left in it, or for its depth
pattern abbrev pub Refused : Refusal → CutExtent
Refused refusal = Err (bad.Refused refusal)
