-- A step over a stream that comes in portions: document 02, Ticket 14, over edition 2 of Ticket 1.
use Rattle.std.specs.Prelude.{◌≡◌, List, ℕ, ◌-◌, length, Err}
use Rattle.node.specs.Records.{capacity}
use Rattle.framing.specs.Framing.{tcp_vec2}
use Rattle.answering.specs.Limits.{decoded, forest_of, tabled}
use Rattle.results.specs.Results.{DecodeAnswer, Ended, PortionAnswer, Read}
use Rattle.results.specs.Results as list

-- what a step over n bytes says, by the answer of `decode_tcp_vec` in edition 2: the bytes before those that are left over are used, and a
-- refused frame stands after them. The line for Waiting is never met, since a list does not wait (document 02, Ticket 1)
abbrev pub portion_of : ℕ → DecodeAnswer → PortionAnswer
portion_of n (list.Packets count left dirty) = Read count (n - left) dirty
portion_of n list.Waiting = Read 0 0 0
portion_of n (Err r) = Err r
portion_of n (list.Stopped count left dirty r at) = Ended count at dirty r

-- the answer of a step: one depth limit, and the room of the table
abbrev pub step_of : ℕ → List ℕ → List ℕ → PortionAnswer
step_of limit bytes table = portion_of (length bytes) (decoded (tcp_vec2 limit) (capacity table) limit bytes)

-- the table after a step: that of `decode_tcp_vec`
abbrev pub table_by : ℕ → List ℕ → List ℕ → List ℕ
table_by limit bytes table = tabled (decoded (tcp_vec2 limit) (capacity table) limit bytes) (forest_of (tcp_vec2 limit bytes)) table

-- the contract of a step: its answer, and the table after the call
pub record Steps (bytes table : List ℕ) (limit : ℕ) (r : PortionAnswer) (after : List ℕ) : Type 0 where
  pub answers : r ≡ step_of limit bytes table
  pub leaves : after ≡ table_by limit bytes table
