-- What the calls of this crate answer, in the words of the definitions: values of std's Result and Option.
use Rattle.std.specs.Prelude.{Result, Ok, ℕ}
use Rattle.refusal.specs.declared.Refusal.{Refusal}
use Rattle.results.specs.declared.End.{End}
use Rattle.slide_steps.specs.declared.Slid.{Slid}

-- what a step over the bytes of a recording answers
abbrev pub Slide : Type 0
Slide = Result Slid Refusal

-- the first `used` bytes are slid, and why no more
abbrev pub Done : ℕ → End → Slide
Done used end = Ok (record { used = used; end = end })
