-- The layout of a case of `data/answers.bin`.
use Rattle.std.specs.Prelude.{◌≡◌, ℕ, ◌+◌, ◌<◌, ◌≤◌, List, length, drop, slice_index}
use Rattle.wire.specs.Number.{number as be}
use Rattle.recorded_runs.specs.declared.case.Case.{Case}
use Rattle.recorded_runs.specs.Operation.{number_of}

-- the bytes whose 4-byte length stands at index at of s end at e, no further than s does
pub record Ends (s : List ℕ) (at e : ℕ) : Type 0 where
  pub here : e ≡ at + 4 + be 4 (drop at s)
  pub within : e ≤ length s

-- a case at the front of s: the operation, 8 bytes of number, 4 of room, two slices, 8 bytes of answer, 8 beside it and the bytes written
pub record Laid (s : List ℕ) (c : Case) : Type 0 where
  pub operation : number_of c.operation ≡ slice_index s 0
  pub known : number_of c.operation < 12
  pub number : c.number ≡ be 8 (drop 1 s)
  pub room : c.room ≡ be 4 (drop 9 s)
  pub small : c.room ≤ 65536
  pub first : Ends s 13 c.first
  pub second : Ends s c.first c.second
  pub due : c.due ≡ be 8 (drop c.second s)
  pub more : c.more ≡ be 8 (drop (c.second + 8) s)
  pub written : Ends s (c.second + 16) c.end
