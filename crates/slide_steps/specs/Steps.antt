-- A step of a slide over a buffer: document 02, Ticket 13, over the definition of crates/slides.
use Rattle.std.specs.Prelude.{◌≡◌, cond, List, ◌++◌, ℕ, leb, length, take, drop, Err, Ok}
use Rattle.refusal.specs.declared.Refusal.{Refusal}
use Rattle.refusal.specs.declared.Refusal.TheVariants.{TooLong, OutputShort}
use Rattle.wire.specs.Limits.{longest}
use Rattle.folding.specs.Folding.{Verdict, takes, waits, refuses, Fold, folded, sum_in}
use Rattle.folding.specs.Walks.{Stepping, EveryWalk, WalkInParts}
use Rattle.slides.specs.Slides.{sliding, slide_of}
use Rattle.slide_steps.specs.FrontResult.{Front}
use Rattle.slide_steps.specs.Results.{Slide}
use Rattle.slide_steps.specs.FrontResult as front
use Rattle.slide_steps.specs.Results as slide

-- the table of a step: "64 KiB tables hold 3,276 records" of 20 bytes (Ticket 10)
abbrev pub table_size : ℕ
table_size = 65520

-- what a step says of a buffer, which stands anywhere in a recording: how many bytes are slid, and why no more
abbrev pub slide_done : Fold (List ℕ) → Slide
slide_done (folded slid at why) = slide.Done at why

-- the answer of a step: 1 of a buffer over 65,535 bytes, then 12 where the table is too short
abbrev pub slide_answer : ℕ → List ℕ → ℕ → Slide
slide_answer by l room =
    cond (leb (length l) longest) (cond (leb table_size room) (slide_done (slide_of by 0 l)) (Err OutputShort))
    (Err TooLong)

-- the buffer after an answer: the slid bytes over its first ones, and a refusal changes none
abbrev pub slide_leaves : Slide → List ℕ → List ℕ → List ℕ
slide_leaves (Ok slid') slid l = slid ++ drop (length slid) l
slide_leaves (Err k) slid l = l

-- the contract of a step
pub record Slides (l : List ℕ) (by : ℕ) (table : List ℕ) (r : Slide) (after table' : List ℕ) : Type 0 where
  pub answers : r ≡ slide_answer by l (length table)
  pub leaves : after ≡ slide_leaves r (sum_in (slide_of by 0 l)) l
  pub keeps : (k : Refusal) → r ≡ Err k → table' ≡ table

-- ---- the frame at the front

-- what is said of it
abbrev pub front_of : Verdict (List ℕ) → Front
front_of (takes size slid) = front.Done size
front_of waits = front.Waiting
front_of (refuses k) = Err k

-- the bytes after that: a frame that is accepted is slid
abbrev pub front_leaves : Verdict (List ℕ) → List ℕ → List ℕ
front_leaves (takes size slid) l = slid ++ drop size l
front_leaves waits l = l
front_leaves (refuses k) l = l

-- the same, wherever the frame stands
pub record FrontSlides (by : ℕ) (l : List ℕ) (r : Front) (after : List ℕ) : Type 0 where
  pub verdict : Verdict (List ℕ)
  pub judged : (base : ℕ) → (sliding by).judge base l ≡ verdict
  pub answers : r ≡ front_of verdict
  pub leaves : after ≡ front_leaves verdict l

-- ---- a recording through buffers

-- what a step does by its contract, with any table: the slid bytes are the front of the buffer
abbrev pub SlideStep : ℕ → Stepping (List ℕ)
SlideStep by base l slid used why =
    (table : List ℕ) × (after : List ℕ) × (table' : List ℕ) × Slides l by table (slide.Done used why) after table'
    × (slid ≡ take used after)

-- "one law for any row of buffers": every walk over a recording, by such steps, gives the slide of the whole
abbrev pub EverySlide : Type 0
EverySlide = (by : ℕ) → EveryWalk (sliding by) (SlideStep by)

-- and what its steps leave, end to end, are its bytes
abbrev pub SlideInParts : Type 0
SlideInParts = (by : ℕ) → WalkInParts (sliding by) (SlideStep by)

-- no second answer and no second buffer meet the contract
abbrev pub OneSlide : Type 0
OneSlide =
    (l : List ℕ) (by : ℕ) (table : List ℕ) (r r' : Slide) (after after' table' table'' : List ℕ) → Slides l by table r after table'
    → Slides l by table r' after' table'' → (r ≡ r') × (after ≡ after')
