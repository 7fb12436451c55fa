-- What the calls of this crate answer, in the words of the definitions: values of std's Result and Option.
use Rattle.std.specs.Prelude.{Result, Ok, ℕ}
use Rattle.refusal.specs.declared.Fault.{Fault}
use Rattle.node.specs.declared.record.Item.{Item}
use Rattle.argument.specs.declared.GivenArg.{GivenArg}

-- what reading one argument gives: the argument, or the fault
abbrev pub Arg : Type 0
Arg = Result GivenArg Fault

-- its own numbers, and how many bytes of data it takes
abbrev pub Given : Item → ℕ → Arg
Given item used = Ok (record { item = item; used = used })
