-- Shifts of a table must add up: document 02, Ticket 13, for a table of bytes whose first n records exist.
use Rattle.std.specs.Prelude.{◌≡◌, ℕ, ◌*◌, ◌<◌, ◌≤◌, List, map, length, slice_index}
use Rattle.node.specs.Records.{record_size}
use Rattle.clock.specs.Shift.{shifted}
use Rattle.shifts.specs.Shifts.{shifted_table, time_tags, Shifts}
use Rattle.shifts.specs.Results.{Shifted}

-- a statement of each such table
abbrev pub EachTable : (ℕ → List ℕ → Type 0) → Type 0
EachTable P = (n : ℕ) (t : List ℕ) → ((i : ℕ) → slice_index t i < 256) → record_size * n ≤ length t → P n t

-- every tag is shifted
abbrev pub TagsShifted : Type 0
TagsShifted = EachTable (λ n t. (by : ℕ) → time_tags n (shifted_table by n t) ≡ map (λ tag. shifted tag by) (time_tags n t))

-- "by zero changes nothing"
abbrev pub TableByZero : Type 0
TableByZero = EachTable (λ n t. shifted_table 0 n t ≡ t)

-- "by x then y equals by x + y modulo 2^64"
abbrev pub TableByTwo : Type 0
TableByTwo = EachTable (λ n t. (x y : ℕ) → shifted_table y n (shifted_table x n t) ≡ shifted_table (shifted x y) n t)

-- "by x and then its opposite", by two calls: all is as before, also where both are refused
abbrev pub CallsAndBack : Type 0
CallsAndBack =
    (t after again : List ℕ) (count x y : ℕ) (r s : Shifted) → ((i : ℕ) → slice_index t i < 256) → shifted x y ≡ 0
    → Shifts t count x r after → Shifts after count y s again → again ≡ t
