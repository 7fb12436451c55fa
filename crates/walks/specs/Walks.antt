-- A walk over a recording: document 02, Ticket 5, "files are read through buffers of at most 64 KiB". One step goes over a buffer, by the
-- contract of the step that writes an index (crates/cues), and says where the walk stands then.
use Rattle.std.specs.Prelude.{◌≡◌, Bool, false, not, cond, List, ℕ, ◌+◌, ◌-◌, ◌*◌, ◌<◌, ◌≤◌, ltb, length, take, drop, Err, Ok}
use Rattle.wire.specs.Limits.{longest}
use Rattle.cues.specs.Cues.{entry_size, longest_recording, Indexes}
use Rattle.results.specs.Ends.{FieldUpTo}
use Rattle.results.specs.declared.End.{End}
use Rattle.results.specs.declared.End.TheVariants as end
use Rattle.results.specs.Results.{IndexAnswer}
use Rattle.walks.specs.declared.Position.{Position}
use Rattle.walks.specs.declared.Walked.{Walked}
use Rattle.walks.specs.declared.Walked.TheVariants.{On, Ended, TooLong}

-- a buffer of so many bytes is the recording's last where it is not full
abbrev pub is_last : ℕ → Bool
is_last count = ltb count longest

-- whether a recording is read on after a buffer, which is its last or not: "writing stops at the first frame not accepted"
abbrev pub reads_on : Bool → End → Bool
reads_on last end.Whole = not last
reads_on last end.Waiting = not last
reads_on last (end.Refused k) = false

-- n records and `used` bytes further, with so many bytes kept
abbrev pub further : Position → ℕ → ℕ → ℕ → Position
further from n used kept = record { at = from.at + used; records = from.records + n; kept = kept }

-- what a step over `count` bytes makes of a position: it is read on, or there are no more records and why
abbrev pub walked_by : Position → ℕ → IndexAnswer → Walked
walked_by from count (Ok indexed) =
    cond (reads_on (is_last count) indexed.end)
    (On (indexed.records * entry_size) (further from indexed.records indexed.used (count - indexed.used)))
    (Ended (indexed.records * entry_size) (further from indexed.records indexed.used (count - indexed.used)) indexed.end)
walked_by from count (Err k) = TooLong

-- the bytes that the step did not use stand at the front of the buffer
abbrev pub keeps_unused : List ℕ → ℕ → IndexAnswer → List ℕ → Type 0
keeps_unused buf count (Ok indexed) kept = take (count - indexed.used) kept ≡ drop indexed.used (take count buf)
keeps_unused buf count (Err k) kept = Unit {0}

-- ---- the numbers of a walk stay low, and it moves on

-- a walk is at an offset of a recording, has a record for 12 bytes at least, and keeps no more than a buffer
pub record LowPosition (p : Position) : Type 0 where
  pub few : 12 * p.records ≤ p.at
  pub near : p.at ≤ longest_recording
  pub short : p.kept ≤ longest

-- so is one that has ended, and a field that was short begins in the recording
pub record LowLast (p : Position) (why : End) : Type 0 where
  pub few : 12 * p.records ≤ p.at
  pub near : p.at ≤ longest_recording
  pub short : p.kept ≤ longest
  pub field : FieldUpTo p.at longest_recording why

-- after a buffer its records are in the output, and where it is read on, the walk is further on
abbrev pub LowAfter : Position → ℕ → Walked → Type 0
LowAfter from room (On written next) = LowPosition next × (from.at < next.at) × (written ≤ room)
LowAfter from room (Ended written last why) = LowLast last why × (written ≤ room)
LowAfter from room TooLong = Unit {0}

-- the contract: the records of the buffer's frames stand in the output, what was not used is kept, and the walk stands where it should. It
-- is too long where the recording is, and only there
pub record WalkStep (from : Position) (buf : List ℕ) (count : ℕ) (out : List ℕ) (r : Walked) (kept after : List ℕ) : Type 0 where
  pub step : IndexAnswer
  pub steps : Indexes (take count buf) from.at out step after
  pub gives : r ≡ walked_by from count step
  pub keeps : keeps_unused buf count step kept
  pub far : r ≡ TooLong → longest_recording < from.at + count
  pub low : LowAfter from (length out) r
