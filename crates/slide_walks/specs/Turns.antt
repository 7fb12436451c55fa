-- A turn of a program that slides a recording: document 02, Ticket 13, over the definition of crates/slides.
use Rattle.std.specs.Prelude.{◌≡◌, cond, List, ℕ, ◌+◌, ◌≤◌, ltb, take, drop}
use Rattle.wire.specs.Limits.{longest}
use Rattle.results.specs.declared.End.{End}
use Rattle.folding.specs.Folding.{folded}
use Rattle.walks.specs.Walks.{reads_on}
use Rattle.slides.specs.Slides.{slide_of}
use Rattle.slide_walks.specs.declared.Turn.{Turn}
use Rattle.slide_walks.specs.declared.Turn.TheVariants.{On, Ended}

-- the contract of a turn over the first `count` bytes of l: what it answers is the slide of those bytes, wherever they stand, whose slid
-- bytes are the front of the buffer; no later byte changes; and it is read on where no frame is refused and the buffer is full
pub record Turns (l : List ℕ) (count by : ℕ) (r : Turn) (after : List ℕ) : Type 0 where
  pub used : ℕ
  pub why : End
  pub tells : (base : ℕ) → slide_of by base (take count l) ≡ folded (take used after) (base + used) why
  pub keeps : drop used after ≡ drop used l
  pub within : used ≤ count
  pub decides : r ≡ cond (reads_on (ltb count longest) why) (On used) (Ended used why)
