-- Describes code, and no part of the document: what a step of a walk asks for, and the bytes that it keeps.
use Rattle.std.specs.Prelude.{◌≡◌, List, ℕ, ◌-◌, ◌*◌, ◌≤◌, length, take, drop}
use Rattle.wire.specs.Limits.{longest}
use Rattle.cues.specs.Cues.{entry_size, most_entries}
use Rattle.walks.specs.Walks.{LowPosition}
use Rattle.walks.specs.declared.Position.{Position}

-- a buffer of 65,535 bytes, of which so many are there, and room for the records of its frames
pub record CanWalk (from : Position) (buf : List ℕ) (count : ℕ) (out : List ℕ) : Type 0 where
  pub low : LowPosition from
  pub full : length buf ≡ longest
  pub there : count ≤ length buf
  pub room : entry_size * most_entries ≤ length out

-- the first r bytes of a buffer are those that stood from `from` up to `to`
pub record RestKept (from to : ℕ) (buf after : List ℕ) (r : ℕ) : Type 0 where
  pub count : r ≡ to - from
  pub bytes : take r after ≡ drop from (take to buf)
