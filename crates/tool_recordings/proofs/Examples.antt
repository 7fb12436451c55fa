-- Examples, computed, that meet the hypothesis of `loop_writes`: a recording of one frame, read in one turn, written and compared.
use mathlib.Core.Path.{refl}
use mathlib.Core.List.{[], ◌∷◌}
use native.Mathlib.Omega.{arith}
use denote.Ref.{Bor}
use Rattle.std.specs.declared.fs.File.{File}
use Rattle.folding.proofs.Examples.{whole-number}
use Rattle.cues.specs.Checks.{compared_at}
use Rattle.results.specs.declared.End.TheVariants as end
use Rattle.recordings.proofs.Examples.{entry}
use Rattle.walks.specs.declared.Walked.TheVariants as walked
use Rattle.tool_walks.specs.Runs.{begun}
use Rattle.tool_walks.proofs.Examples.{last, the_step}
use Rattle.tool_recordings.specs.Loops.{turned, turns_last, written, compared_on, compared_with, Looped}
use Rattle.tool_recordings.specs.declared.Aim.TheVariants.{Write, Compare}
use Rattle.tool_recordings.specs.declared.Came.TheVariants.{Ended, Differs}

-- its record is written
writes : (file : Bor File) → Looped (Write file) (Ended last end.Whole) begun [] (entry 0 ∷ [])
writes file =
    turns_last {there = []}
    (turned {portion = whole-number} {count = 16} {step = walked.Ended 16 last end.Whole} (omega arith) (record { is = refl }) the_step refl
    (written refl refl)) tt

-- it fits the index
fits : (file : Bor File) → Looped (Compare file) (Ended last end.Whole) begun [] (entry 0 ∷ [])
unfolding compared_at
fits file =
    turns_last {there = entry 0}
    (turned {portion = whole-number} {count = 16} {step = walked.Ended 16 last end.Whole} (omega arith) (record { is = refl }) the_step refl
    (compared_on refl (compared_with 16 (omega arith) refl))) tt

-- and differs from one that says another offset
differs : (file : Bor File) → Looped (Compare file) (Differs 0) begun [] (entry 0 ∷ [])
unfolding compared_at
differs file =
    turns_last {there = entry 1}
    (turned {portion = whole-number} {count = 16} {step = walked.Ended 16 last end.Whole} (omega arith) (record { is = refl }) the_step refl
    (compared_on refl (compared_with 16 (omega arith) refl))) tt
