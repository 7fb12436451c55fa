-- What the words of the command shift ask: document 02, Ticket 13.
use Rattle.std.specs.Prelude.{Option, Some, None, Result, Ok, cond, List, ℕ, eqb}
use Rattle.troubles.specs.Blames.{wrong}
use Rattle.troubles.specs.declared.Blame.{Blame}
use Rattle.troubles.specs.declared.Trouble.TheVariants.{ShiftWords, NoAmount}
use Rattle.amounts.specs.Amounts.{amount_of}

-- shift has four words: osc shift RECORDING OUT BY
abbrev pub shift_with : Option ℕ → Result ℕ Blame
shift_with (Some by) = Ok by
shift_with None = wrong NoAmount 4

abbrev pub shift_asked : ℕ → List ℕ → Result ℕ Blame
shift_asked count word = cond (eqb count 5) (shift_with (amount_of word)) (wrong ShiftWords 0)
