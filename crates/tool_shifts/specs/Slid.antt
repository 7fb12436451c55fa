-- The program's loop that slides a recording, document 02, Ticket 13: a buffer is read, slid (crates/slide_walks), and its slid bytes are
-- written; then the next buffer comes. What is said here is what each turn of it hands on.
use Rattle.std.specs.Prelude.{◌≡◌, List, [], ◌∷◌, ℕ, ◌+◌, ◌-◌, ◌≤◌, length, take}
use Rattle.wire.specs.Limits.{longest}
use Rattle.results.specs.declared.End.{End}
use Rattle.folding.specs.Folding.{folded, joined_bytes}
use Rattle.cues.specs.Cues.{longest_recording}
use Rattle.walks.specs.CodeWalks.{RestKept}
use Rattle.walks.specs.declared.Position.{Position}
use Rattle.slides.specs.Slides.{slide_of}
use Rattle.slide_steps.specs.Steps.{table_size}
use Rattle.slide_walks.specs.Turns.{Turns}
use Rattle.slide_walks.specs.declared.Turn.{Turn}
use Rattle.slide_walks.specs.declared.Turn.TheVariants as turn
use Rattle.tool_walks.specs.Runs.{begun, BufferHolds}
use Rattle.tool_recordings.specs.Loops.{IsOver}
use Rattle.tool_recordings.specs.declared.Came.{Came}
use Rattle.tool_recordings.specs.declared.Came.TheVariants.{On, Ended, Failed}

-- the two buffers: a recording's bytes, and a table for a frame
pub record SlideRoom (buf table : List ℕ) : Type 0 where
  pub bytes : length buf ≡ longest
  pub records : length table ≡ table_size

-- how many bytes a turn has slid
abbrev pub slid_by : Turn → ℕ
slid_by (turn.On used) = used
slid_by (turn.Ended used why) = used

-- a position so many bytes further on, of `count` that are there
abbrev pub after_bytes : Position → ℕ → ℕ → Position
after_bytes from count used = record { at = from.at + used; records = 0; kept = count - used }

-- where the walk stands after a turn over `count` bytes
abbrev pub came_after : Position → ℕ → Turn → Came
came_after from count (turn.On used) = On (after_bytes from count used)
came_after from count (turn.Ended used why) = Ended (after_bytes from count used) why

-- such a turn has room: its bytes are in the buffer, and the recording is not too long
pub record CanStand (from : Position) (buf : List ℕ) (count : ℕ) (t : Turn) : Type 0 where
  pub within : slid_by t ≤ count
  pub there : count ≤ length buf
  pub near : from.at + count ≤ longest_recording

-- the walk stands there, and the bytes that are not slid stand at the front of the buffer
pub record StandsAfter (from : Position) (count : ℕ) (t : Turn) (buf kept : List ℕ) (r : Came) : Type 0 where
  pub rest : RestKept (slid_by t) count buf kept (count - slid_by t)
  pub came : r ≡ came_after from count t

-- a turn of the loop: a portion is read after what was kept, both are slid, the slid bytes are written, and the others are kept
pub data SlidBuffer (by : ℕ) (from : Position) (before kept fresh : List ℕ) (r : Came) : Type 0 where
  slide_fails : r ≡ Failed → SlidBuffer by from before kept fresh r
  slid_buffer : {portion buf slid : List ℕ} {count : ℕ} {t : Turn} → length buf ≡ longest → count ≤ length buf
      → from.at + count ≤ longest_recording → BufferHolds from before portion count buf → Turns buf count by t slid
      → fresh ≡ take (slid_by t) slid → StandsAfter from count t slid kept r → SlidBuffer by from before kept fresh r

-- the same of any bytes that are written
pub record SlidesTo (by : ℕ) (from : Position) (before kept : List ℕ) (r : Came) : Type 0 where
  pub fresh : List ℕ
  pub is : SlidBuffer by from before kept fresh r

-- the loop: each turn begins where the one before it came to, up to one that does not go on; the bytes that each has written are a part
pub data SlideLoop (by : ℕ) (r : Came) : Position → List ℕ → List (List ℕ) → Type 0 where
  slides_on : {from next : Position} {before kept fresh : List ℕ} {parts : List (List ℕ)} → SlidBuffer by from before kept fresh (On next)
      → SlideLoop by r next kept parts → SlideLoop by r from before (fresh ∷ parts)
  slides_last : {from : Position} {before kept fresh : List ℕ} → SlidBuffer by from before kept fresh r → IsOver r
      → SlideLoop by r from before (fresh ∷ [])

-- the same of any parts
pub record SlidesAt (by : ℕ) (from : Position) (before : List ℕ) (r : Came) : Type 0 where
  pub parts : List (List ℕ)
  pub loop : SlideLoop by r from before parts

-- so a loop that comes to the end of a recording has written the slide of all that was read, and says where and why that ends
abbrev pub LoopSlides : Type 0
LoopSlides =
    (by : ℕ) (before : List ℕ) (parts : List (List ℕ)) (last : Position) (why : End) → SlideLoop by (Ended last why) begun before parts
    → (portions : List (List ℕ)) × (slide_of by 0 (joined_bytes portions) ≡ folded (joined_bytes parts) last.at why)
