-- The program's loop over a recording, document 02, Ticket 5: a buffer is read, walked over (crates/walks), and its records are written or
-- compared; then the next buffer comes. What is said here is what each turn of it hands on.
use Rattle.std.specs.Prelude.{◌≡◌, List, [], ◌∷◌, ℕ, ◌≤◌, length, take, Ok, Err}
use denote.Ref.{Bor}
use Rattle.std.specs.declared.fs.File.{File}
use Rattle.wire.specs.Limits.{longest}
use Rattle.folding.specs.Folding.{joined_bytes}
use Rattle.cues.specs.Checks.{compared, numbered_from}
use Rattle.results.specs.Results.{Checked}
use Rattle.results.specs.Results as checked
use Rattle.results.specs.declared.End.{End}
use Rattle.results.specs.declared.End.TheVariants as end
use Rattle.walks.specs.Walks.{WalkStep}
use Rattle.walks.specs.declared.Position.{Position}
use Rattle.walks.specs.declared.Walked.{Walked}
use Rattle.walks.specs.declared.Walked.TheVariants as walked
use Rattle.tool_walks.specs.Runs.{begun, BufferHolds, Run, WritesWhole}
use Rattle.tool_recordings.specs.declared.Aim.{Aim}
use Rattle.tool_recordings.specs.declared.Aim.TheVariants.{Write, Compare}
use Rattle.tool_recordings.specs.declared.Came.{Came}
use Rattle.tool_recordings.specs.declared.Came.TheVariants.{On, Ended, Differs, Failed}
use Rattle.tool_recordings.specs.declared.Judged.{Judged}
use Rattle.tool_recordings.specs.declared.Judged.TheVariants as judged

-- the records that a step has written: the first bytes of its output
abbrev pub fresh_in : Walked → List ℕ → List ℕ
fresh_in (walked.On n next) out = take n out
fresh_in (walked.Ended n last why) out = take n out
fresh_in walked.TooLong out = []

-- where the walk stands once they are handed on; a recording that is too long is trouble
abbrev pub came_by : Walked → Came
came_by (walked.On n next) = On next
came_by (walked.Ended n last why) = Ended last why
came_by walked.TooLong = Failed

-- records that were compared: where they fit, the walk stands there, and otherwise it is over
abbrev pub came_if : Checked → Came → Came
came_if (Ok k) next = next
came_if (Err differs) next = Differs differs.at

-- records are compared, before which stand `before` others, with the first bytes of what was read of the index, at most as many as they
-- have; what went wrong was said
pub data ComparedOn (before : ℕ) (fresh there : List ℕ) (next r : Came) : Type 0 where
  compare_fails : r ≡ Failed → ComparedOn before fresh there next r
  compared_with : (n : ℕ) → n ≤ length fresh → r ≡ came_if (numbered_from before (compared fresh (take n there))) next
      → ComparedOn before fresh there next r

-- records are handed on: they are written, or compared
pub data HandedOn (aim : Aim) (before : ℕ) (fresh there : List ℕ) (next r : Came) : Type 0 where
  write_fails : r ≡ Failed → HandedOn aim before fresh there next r
  written : {file : Bor File} → aim ≡ Write file → r ≡ next → HandedOn aim before fresh there next r
  compared_on : {file : Bor File} → aim ≡ Compare file → ComparedOn before fresh there next r → HandedOn aim before fresh there next r

-- a turn of the loop: a portion is read after what was kept, the step goes over both, and its records are handed on, numbered after those
-- that stand before them
pub data Turn (aim : Aim) (from : Position) (before kept out after there fresh : List ℕ) (r : Came) : Type 0 where
  turn_fails : r ≡ Failed → Turn aim from before kept out after there fresh r
  turned : {portion buf : List ℕ} {count : ℕ} {step : Walked} → count ≤ longest → BufferHolds from before portion count buf
      → WalkStep from buf count out step kept after → fresh ≡ fresh_in step after
      → HandedOn aim from.records fresh there (came_by step) r → Turn aim from before kept out after there fresh r

-- the same of any records
pub record TurnsTo (aim : Aim) (from : Position) (before kept out after there : List ℕ) (r : Came) : Type 0 where
  pub fresh : List ℕ
  pub is : Turn aim from before kept out after there fresh r

-- a walk that does not go on
abbrev pub IsOver : Came → Type 0
IsOver (On next) = ⊥
IsOver (Ended last why) = Unit {0}
IsOver (Differs k) = Unit {0}
IsOver Failed = Unit {0}

-- the loop: each turn begins where the one before it came to, up to one that does not go on; the records of each are a part
pub data Looped (aim : Aim) (r : Came) : Position → List ℕ → List (List ℕ) → Type 0 where
  turns_on : {from next : Position} {before kept out after there fresh : List ℕ} {parts : List (List ℕ)}
      → Turn aim from before kept out after there fresh (On next) → Looped aim r next kept parts → Looped aim r from before (fresh ∷ parts)
  turns_last : {from : Position} {before kept out after there fresh : List ℕ} → Turn aim from before kept out after there fresh r
      → IsOver r → Looped aim r from before (fresh ∷ [])

-- the same of any parts, and from a buffer of any bytes
pub record LoopsAt (aim : Aim) (from : Position) (before : List ℕ) (r : Came) : Type 0 where
  pub parts : List (List ℕ)
  pub loop : Looped aim r from before parts

pub record LoopsFrom (aim : Aim) (from : Position) (r : Came) : Type 0 where
  pub before : List ℕ
  pub loops : LoopsAt aim from before r

-- what a check of the index says after a walk that came to its end: whether there are more bytes of the index; what went wrong was said
pub data JudgedAt (last : Position) (why : End) (r : Judged) : Type 0 where
  rest_fails : r ≡ judged.Failed → JudgedAt last why r
  rest_checked : (more : List ℕ) → r ≡ judged.As (numbered_from last.records (compared [] more)) last.at why → JudgedAt last why r

-- a record that differs ended the walk, and is what is said
abbrev pub JudgedBy : Came → Judged → Type 0
JudgedBy (On next) r = r ≡ judged.Failed
JudgedBy (Ended last why) r = JudgedAt last why r
JudgedBy (Differs k) r = r ≡ judged.As (checked.Differs k) 0 end.Whole
JudgedBy Failed r = r ≡ judged.Failed

-- a check of an open index: its loop compares, and it says what that came to; or it failed
pub data Judges (r : Judged) : Type 0 where
  judge_fails : r ≡ judged.Failed → Judges r
  judges : {file : Bor File} {came : Came} → LoopsFrom (Compare file) begun came → JudgedBy came r → Judges r

-- ---- what follows

-- a loop that comes to the end of a recording is a run over what was read, and the parts that it has handed on are the run's
abbrev pub EveryLoop : Type 0
EveryLoop =
    (aim : Aim) (from : Position) (before : List ℕ) (parts : List (List ℕ)) (last : Position) (why : End)
    → Looped aim (Ended last why) from before parts → (portions : List (List ℕ)) × Run from before portions parts last why

-- so the parts are the index of the whole recording
abbrev pub LoopWrites : Type 0
LoopWrites =
    (aim : Aim) (before : List ℕ) (parts : List (List ℕ)) (last : Position) (why : End) → Looped aim (Ended last why) begun before parts
    → (portions : List (List ℕ)) × WritesWhole (joined_bytes portions) (joined_bytes parts) last why
