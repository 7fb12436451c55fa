-- What the calls of this crate answer, in the words of the definitions: values of std's Result and Option.
use Rattle.std.specs.Prelude.{Option, Some, None, Result, Ok, ℕ}
use Rattle.refusal.specs.declared.Refusal.{Refusal}
use Rattle.cues.specs.declared.cue.JudgedFrame.{JudgedFrame}

-- what stands at the front of some bytes of a recording: a frame that is accepted, one that is not all there, or the refusal
abbrev pub Cue : Type 0
Cue = Result (Option JudgedFrame) Refusal

-- a frame that is accepted: its bytes, prefix included, and the records of its table
abbrev pub Given : ℕ → ℕ → Cue
Given size records = Ok (Some (record { size = size; records = records }))

-- a frame that is not all there
pattern abbrev pub Waiting : Cue
Waiting = Ok None
