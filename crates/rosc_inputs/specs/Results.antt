-- What the calls of this crate answer, in the words of the definitions: values of std's Result and Option.
use Rattle.std.specs.Prelude.{Option, Result, Ok, ℕ}
use Rattle.refusal.specs.declared.Refusal.{Refusal}
use Rattle.measure.specs.Results.{Extent}
use Rattle.rosc_inputs.specs.declared.MeasuredInput.{MeasuredInput}
use Rattle.rosc_inputs.specs.declared.MeasuredInput.TheVariants as input

-- what the first reading of a frame answers: its packet, or nothing where it waits
abbrev pub FrameExtent : Type 0
FrameExtent = Option Extent

-- what the first reading of a whole input answers
abbrev pub Total : Type 0
Total = Result MeasuredInput Refusal

-- the records of all the trees, the bytes left over, and how many bytes of the padding of all that is kept are not zero
pattern abbrev pub Trees : ℕ → ℕ → ℕ → Total
Trees count left dirty = Ok (input.Trees count left dirty)

-- one of the trees is nested deeper than the limit
pattern abbrev pub Deep : Total
Deep = Ok input.Deep

-- the first frame is not all there
pattern abbrev pub Waiting : Total
Waiting = Ok input.Waiting

-- the same as `Trees` of the frames before a refused one, why it is refused, and its offset
pattern abbrev pub Stopped : ℕ → ℕ → ℕ → Refusal → ℕ → Total
Stopped count left dirty refusal frame = Ok (input.Stopped count left dirty refusal frame)
