-- What the calls of this crate answer, in the words of the definitions: values of std's Result and Option.
use Rattle.std.specs.Prelude.{Result, Ok, Err, ℕ}
use Rattle.refusal.specs.declared.Refusal.{Refusal}
use Rattle.results.specs.declared.Decoded.{Decoded}
use Rattle.results.specs.declared.Decoded.TheVariants as decoded
use Rattle.results.specs.declared.Portion.{Portion}
use Rattle.results.specs.declared.Portion.TheVariants as portion
use Rattle.results.specs.declared.Indexed.{Indexed}
use Rattle.results.specs.declared.CueAt.{CueAt}
use Rattle.results.specs.declared.End.{End}
use Rattle.results.specs.declared.IndexDiffers.{IndexDiffers}

-- what a decoder answers
abbrev pub DecodeAnswer : Type 0
DecodeAnswer = Result Decoded Refusal

-- records written, input bytes left over, and how many bytes of the padding of all that is kept are not zero
pattern abbrev pub Packets : ℕ → ℕ → ℕ → DecodeAnswer
Packets count left dirty = Ok (decoded.Packets count left dirty)

-- the first frame is not all there: nothing was read
pattern abbrev pub Waiting : DecodeAnswer
Waiting = Ok decoded.Waiting

-- the same as `Packets` of the packets before a refused frame, why it is refused, and the offset of its prefix
pattern abbrev pub Stopped : ℕ → ℕ → ℕ → Refusal → ℕ → DecodeAnswer
Stopped count left dirty refusal frame = Ok (decoded.Stopped count left dirty refusal frame)

-- what a step over the bytes of a stream answers
abbrev pub PortionAnswer : Type 0
PortionAnswer = Result Portion Refusal

-- records written, the bytes that the whole frames take, and their dirty padding
pattern abbrev pub Read : ℕ → ℕ → ℕ → PortionAnswer
Read count used dirty = Ok (portion.Read count used dirty)

-- the same of the frames before one that is refused, which stands at `used`
pattern abbrev pub Ended : ℕ → ℕ → ℕ → Refusal → PortionAnswer
Ended count used dirty refusal = Ok (portion.Ended count used dirty refusal)

-- what a step over the bytes of a recording answers
abbrev pub IndexAnswer : Type 0
IndexAnswer = Result Indexed Refusal

-- so many records were written, for the first `used` bytes, and why no more
abbrev pub Written : ℕ → ℕ → End → IndexAnswer
Written records used end = Ok (record { records = records; used = used; end = end })

-- what a record of an index says
abbrev pub CueAnswer : Type 0
CueAnswer = Result CueAt Refusal

-- where the frame's prefix stands, its length without the prefix, and the records of its table
abbrev pub At : ℕ → ℕ → ℕ → CueAnswer
At offset size records = Ok (record { offset = offset; size = size; records = records })

-- what an encoder answers: the number of bytes written, or the refusal
abbrev pub Encoded : Type 0
Encoded = Result ℕ Refusal

-- what a check answers: so many records that are those written afresh, or the first that differs
abbrev pub Checked : Type 0
Checked = Result ℕ IndexDiffers

-- the first record that differs, is missing or is one too many, from 0; a part counts as one
abbrev pub Differs : ℕ → Checked
Differs at = Err (record { at = at })
