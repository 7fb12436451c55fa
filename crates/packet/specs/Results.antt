-- What the calls of this crate answer, in the words of the definitions: values of std's Result and Option.
use Rattle.std.specs.Prelude.{Result, Ok, ℕ}
use Rattle.refusal.specs.declared.Fault.{Fault}
use Rattle.packet.specs.declared.PacketStart.{PacketStart}
use Rattle.packet.specs.declared.PacketStart.TheVariants as first

-- what a packet starts with, or the fault
abbrev pub Start : Type 0
Start = Result PacketStart Fault

-- an address of n bytes, which takes so many of the input
pattern abbrev pub Message : ℕ → ℕ → Start
Message n used = Ok (first.Message n used)

-- "#bundle", which takes so many of the input
pattern abbrev pub Bundle : ℕ → Start
Bundle used = Ok (first.Bundle used)
