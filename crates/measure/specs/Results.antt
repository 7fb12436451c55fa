-- What the calls of this crate answer, in the words of the definitions: values of std's Result and Option.
use Rattle.std.specs.Prelude.{Option, Result, Ok, ℕ}
use Rattle.refusal.specs.declared.Fault.{Fault}
use Rattle.measure.specs.declared.MeasuredPacket.{MeasuredPacket}
use Rattle.measure.specs.declared.MeasuredPacket.TheVariants as packet

-- what the first reading of a packet answers
abbrev pub Extent : Type 0
Extent = Result MeasuredPacket Fault

-- so many records, the position after its last byte, and so many bytes of the padding of all that it keeps that are not zero
pattern abbrev pub Tree : ℕ → ℕ → ℕ → Extent
Tree count next dirty = Ok (packet.Tree count next dirty)

-- it is nested deeper than the limit, and ends at this position
pattern abbrev pub Deep : ℕ → Extent
Deep next = Ok (packet.Deep next)

-- what a look at an element answers: how many bytes it has, where it is accepted
abbrev pub Skimmed : Type 0
Skimmed = Option ℕ
