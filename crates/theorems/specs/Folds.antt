-- What holds of every fold over the accepted frames of a recording: of the index (Ticket 5), and of whatever else is added up frame by
-- frame.
use Rattle.std.specs.Prelude.{List, ℕ}
use Rattle.folding.specs.Folding.{Folding, Sound, CutAnywhere, AnyBuffers}
use Rattle.folding.specs.Walks.{Stepping, TellsFold, CanStep, EveryWalk, AnyWalk, WalkInParts}

-- Folds over the frames of a recording
pub record Folds : Type 1 where
  -- However a recording is read, what is added up over its frames is that of the whole: in one go or in two; through any row of buffers,
  -- each holding the unread remainder and what follows; by every walk of a program that repeats a step, and such a walk can always be
  -- made; and in parts that are joined.
  -- definitions: folding/Walk
  -- edits: folding/remainder_one_byte_short, folding/verdict_may_turn, folding/frame_of_no_byte, folding/sums_in_reverse
  pub cut_anywhere : (A : Type 0) (f : Folding A) → Sound f → CutAnywhere f
  pub any_buffers : (A : Type 0) (f : Folding A) → Sound f → AnyBuffers f
  pub every_walk : (A : Type 0) (f : Folding A) → Sound f → (Step : Stepping A) → TellsFold f Step → EveryWalk f Step
  pub any_walk : (A : Type 0) (f : Folding A) → Sound f → (Step : Stepping A) (most : ℕ) → CanStep f Step most → AnyWalk f Step most
  pub walk_in_parts : (A : Type 0) (f : Folding A) → Sound f → (Step : Stepping A) → TellsFold f Step → WalkInParts f Step
