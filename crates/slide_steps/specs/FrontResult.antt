-- What a step finds at the front of its bytes, in the words of the definitions: a value of std's Result and Option.
use Rattle.std.specs.Prelude.{Option, Some, None, Result, Ok, ℕ}
use Rattle.refusal.specs.declared.Refusal.{Refusal}

-- what stands at the front of some bytes of a recording
abbrev pub Front : Type 0
Front = Result (Option ℕ) Refusal

-- a frame of so many bytes, which is slid
pattern abbrev pub Done : ℕ → Front
Done size = Ok (Some size)

-- a frame that is not all there
pattern abbrev pub Waiting : Front
Waiting = Ok None
