-- The program's walk over a recording, document 02, Ticket 5: over the contract of its step (crates/walks), whose position goes from one
-- step to the next. The loop around it reads portions and writes, or checks, what the steps have written.
use Rattle.std.specs.Prelude.{◌≡◌, List, [], ◌∷◌, ◌++◌, ℕ, ◌+◌, ◌*◌, ◌<◌, length, take, drop, Ok}
use Rattle.wire.specs.Limits.{longest}
use Rattle.folding.specs.Folding.{joined_bytes}
use Rattle.folding.specs.Walks.{MayContinue, Walk, Reached}
use Rattle.cues.specs.Cues.{entry_size, indexing, index, index_of, IndexStep}
use Rattle.cues.specs.Checks.{compared, checked_as, numbered_from}
use Rattle.results.specs.declared.End.{End}
use Rattle.results.specs.Results.{Checked, Differs}
use Rattle.recordings.specs.Recordings.{checked_in_parts}
use Rattle.walks.specs.Walks.{WalkStep}
use Rattle.walks.specs.declared.Position.{Position}
use Rattle.walks.specs.declared.Walked.TheVariants.{On, Ended}

-- where a walk begins
abbrev pub begun : Position
begun = record { at = 0; records = 0; kept = 0 }

-- the first `count` bytes of a buffer are those that were kept at the front of it and the portion that was read after them
pub record BufferHolds (from : Position) (before portion : List ℕ) (count : ℕ) (buf : List ℕ) : Type 0 where
  pub is : take count buf ≡ take from.kept before ++ portion

-- ---- one step

-- how a walk stands after the bytes `past` of a recording, with these records written: whatever comes, the whole index is these before the
-- index of what is kept and what comes. Nothing of the past is in it
pub record Stands (past : List ℕ) (p : Position) (buf written : List ℕ) : Type 0 where
  pub whole : Reached indexing past p.at (take p.kept buf) written
  pub counted : length written ≡ entry_size * p.records

-- so it stands before the first byte
abbrev pub RunBegins : Type 0
RunBegins = (buf : List ℕ) → Stands [] begun buf []

module _ (past portion written : List ℕ) (from : Position) (before buf out kept after : List ℕ) (count n : ℕ) where
  -- and after every step that goes on
  abbrev pub StandsOn : Type 0
  StandsOn =
      (next : Position) → Stands past from before written → BufferHolds from before portion count buf
      → WalkStep from buf count out (On n next) kept after → Stands (past ++ portion) next kept (written ++ take n after)

  -- where a step ends the walk, it has the index of all that was read; and where that is at a refused frame, the index of all that comes
  pub record EndsThere (last : Position) (why : End) : Type 0 where
    pub read : index_of 0 (past ++ portion) ≡ index (written ++ take n after) last.at why
    pub later : (MayContinue why → ⊥) → (more : List ℕ)
        → index_of 0 ((past ++ portion) ++ more) ≡ index (written ++ take n after) last.at why
    pub counted : length (written ++ take n after) ≡ entry_size * last.records

  abbrev pub StandsEnded : Type 0
  StandsEnded =
      (last : Position) (why : End) → Stands past from before written → BufferHolds from before portion count buf
      → WalkStep from buf count out (Ended n last why) kept after → EndsThere last why

-- ---- a row of steps

-- a read fills the buffer, unless the recording ends with it
abbrev pub ReadFills : List (List ℕ) → ℕ → Type 0
ReadFills [] count = count < longest
ReadFills (next ∷ later) count = count ≡ longest

-- what the loop meets, with any buffers and outputs: a portion is read after what was kept, the step goes over both, and the first bytes of
-- its output are a part of the index. Then come the next portion and the parts after it, up to where and why it ends
pub data Run : Position → List ℕ → List (List ℕ) → List (List ℕ) → Position → End → Type 0 where
  goes_further : {from next last : Position} {before portion buf out kept after : List ℕ} {later parts : List (List ℕ)} {count n : ℕ} {why : End}
      → BufferHolds from before portion count buf → ReadFills later count → WalkStep from buf count out (On n next) kept after
      → Run next kept later parts last why → Run from before (portion ∷ later) (take n after ∷ parts) last why
  ends : {from last : Position} {before portion buf out kept after : List ℕ} {later : List (List ℕ)} {count n : ℕ} {why : End}
      → BufferHolds from before portion count buf → ReadFills later count → WalkStep from buf count out (Ended n last why) kept after
      → Run from before (portion ∷ later) (take n after ∷ []) last why

-- every run is a walk over the same portions, which writes its parts end to end
abbrev pub RunWalks : Type 0
RunWalks =
    (from : Position) (before : List ℕ) (portions parts : List (List ℕ)) (last : Position) (why : End)
    → Run from before portions parts last why
    → Walk indexing IndexStep from.at (take from.kept before) portions parts (index (joined_bytes parts) last.at why)

-- so what it wrote is the index of the whole recording, where and why it ends are the index's, and its records are counted
pub record WritesWhole (recording written : List ℕ) (last : Position) (why : End) : Type 0 where
  pub is : index_of 0 recording ≡ index written last.at why
  pub counted : length written ≡ entry_size * last.records

abbrev pub RunWrites : Type 0
RunWrites =
    (before : List ℕ) (portions parts : List (List ℕ)) (last : Position) (why : End) → Run begun before portions parts last why
    → WritesWhole (joined_bytes portions) (joined_bytes parts) last why

-- ---- a row of checks

-- what the loop meets that checks a given index, `from` records of which fit: each part against as many bytes, or those that it still has,
-- until one differs; and after the last part against one byte more, if there is one
pub data CheckRun : ℕ → List (List ℕ) → List ℕ → Checked → Type 0 where
  none_left : {from : ℕ} {given : List ℕ} {r : Checked} → r ≡ numbered_from from (compared [] (take 1 given)) → CheckRun from [] given r
  part_fits : {from next : ℕ} {part given : List ℕ} {later : List (List ℕ)} {r : Checked} (n : ℕ) → length part ≡ entry_size * n
      → Ok next ≡ numbered_from from (compared part (take (length part) given))
      → CheckRun (from + n) later (drop (length part) given) r → CheckRun from (part ∷ later) given r
  part_differs : {from k : ℕ} {part given : List ℕ} {later : List (List ℕ)}
      → Differs k ≡ numbered_from from (compared part (take (length part) given)) → CheckRun from (part ∷ later) given (Differs k)

-- every such row answers as the check in parts does
abbrev pub CheckRuns : Type 0
CheckRuns =
    (from : ℕ) (parts : List (List ℕ)) (given : List ℕ) (r : Checked) → CheckRun from parts given r
    → r ≡ numbered_from from (checked_in_parts parts given)

-- and a run whose parts are so checked answers as the check of the whole recording does, with 25 and its record too
abbrev pub RunChecks : Type 0
RunChecks =
    (before : List ℕ) (portions parts : List (List ℕ)) (last : Position) (why : End) (given : List ℕ) (r : Checked)
    → Run begun before portions parts last why → CheckRun 0 parts given r → r ≡ checked_as (joined_bytes portions) given
