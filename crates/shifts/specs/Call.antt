-- `shift_table` as one contract, and what C is told of its answer.
use Rattle.std.specs.Prelude.{◌≡◌, ℕ, cond, List, [], ◌∷◌, nat_lt, Err, Ok}
use Rattle.refusal.specs.declared.Refusal.TheVariants.{BadTable}
use Rattle.contract.specs.Endings.{Ending, result, refuses}
use Rattle.contract.specs.Contract.{Contract, writes}
use Rattle.told.specs.declared.Told.{Told}
use Rattle.told.specs.Answers.{told_answer, told_number}
use Rattle.shifts.specs.Shifts.{shift_answer, shift_leaves, Shifts}
use Rattle.shifts.specs.Results.{Shifted}

-- how an answer ends the call
abbrev pub by_shifted : Shifted → Ending
by_shifted (Ok n) = result
by_shifted (Err r) = refuses r

-- its contract: it writes into the table, and 11 is its one refusal
abbrev pub shifting : List ℕ → ℕ → ℕ → Contract
shifting table count by = writes Shifted table (Shifts table count by) by_shifted (11 ∷ [])

-- ---- at the C boundary

-- the tags moved
abbrev pub shifted_told : Shifted → Told
shifted_told (Ok n) = told_answer 0 n 0
shifted_told (Err r) = told_number r

-- from this count on C is refused with 11, so that the tags have their 32 bits: such a table has over 85 gigabytes
abbrev pub most_shifted : ℕ
most_shifted = 0x1_0000_0000

-- the contract of `osc_shift_table`
pub record ShiftsTold (t : List ℕ) (count by : ℕ) (r : Shifted) (after : List ℕ) : Type 0 where
  pub answers : r ≡ cond (nat_lt count most_shifted) (shift_answer t count) (Err BadTable)
  pub leaves : after ≡ shift_leaves r t count by
