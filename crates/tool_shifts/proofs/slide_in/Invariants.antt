-- `tool_shifts::slide_in` meets its contract. The invariant: the buffers keep their lengths and the walk its numbers, and whatever the loop
-- comes to from here, it comes to from the start; what is left of the longest recording falls.
use Prim.Native.Nat.{◌-◌}
use Rattle.cues.specs.Cues.{longest_recording}
use Rattle.walks.specs.Walks.{LowPosition}
use Rattle.tool_walks.specs.Runs.{begun}
use Rattle.tool_recordings.specs.declared.Came.{Came}
use Rattle.tool_shifts.specs.Slid.{SlideRoom, SlidesAt}
use Rattle.tool_shifts.proofs.slide_in.Given as goal

abbrev pub invariant-loop-next : goal.invariant-loop-next
invariant-loop-next l =
    SlideRoom l.buf l.table × LowPosition l.walk × ((r : Came) → SlidesAt l.by l.walk l.buf r → SlidesAt l.by begun l.initial.buf r)

abbrev pub decreases-loop-next : goal.decreases-loop-next
decreases-loop-next l = longest_recording - l.walk.at
