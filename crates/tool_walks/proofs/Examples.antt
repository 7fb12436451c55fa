-- Examples, computed, that meet the hypotheses of `run_writes` and `run_checks`: a recording of one frame, read in one portion.
use mathlib.Core.Path.{◌≡◌, refl}
use mathlib.Core.List.{List, [], ◌∷◌}
use Prim.Native.Nat.{ℕ}
use native.Mathlib.Omega.{arith}
use lib.ListN.{replicate}
use Rattle.folding.specs.Folding.{joined_bytes}
use Rattle.folding.proofs.Examples.{whole-number}
use Rattle.cues.specs.Checks.{compared_at, checked_as}
use Rattle.results.specs.Results.{Differs, Written}
use Rattle.std.specs.Prelude.{Ok}
use Rattle.results.specs.declared.End.TheVariants as end
use Rattle.recordings.proofs.Examples.{entry, first_step}
use Rattle.walks.specs.Walks.{WalkStep}
use Rattle.walks.specs.declared.Position.{Position}
use Rattle.walks.specs.declared.Walked.TheVariants.{Ended}
use Rattle.tool_walks.specs.Runs.{begun, Run, ends, WritesWhole, CheckRun, none_left, part_fits, part_differs}
use Rattle.tool_walks.proofs.Runs.{run_writes}
use Rattle.tool_walks.proofs.Checks.{run_checks}

-- after the frame's 16 bytes there is one record, and nothing is kept
abbrev pub last : Position
last = record { at = 16; records = 1; kept = 0 }

-- the step over them, with an output of 16 bytes
pub the_step : WalkStep begun whole-number 16 (replicate 16 9) (Ended 16 last end.Whole) [] (entry 0)
the_step =
    record {
      step = Written 1 16 end.Whole;
      steps = first_step;
      gives = refl;
      keeps = refl;
      far = λ e. let z : ◌≡◌ {A = ℕ} 0 1 = cc in absurd (omega arith);
      low = (record { few = omega arith; near = omega arith; short = omega arith; field = tt }, omega arith);
    }

the-run : Run begun [] (whole-number ∷ []) (entry 0 ∷ []) last end.Whole
the-run = ends {later = []} {count = 16} (record { is = refl }) (omega arith) the_step

-- what it wrote is the index of the recording
writes : WritesWhole (joined_bytes (whole-number ∷ [])) (joined_bytes (entry 0 ∷ [])) last end.Whole
writes = run_writes [] (whole-number ∷ []) (entry 0 ∷ []) last end.Whole the-run

-- its part against that index, and against one that has another number in its first record
fitting : CheckRun 0 (entry 0 ∷ []) (entry 0) (Ok 1)
unfolding compared_at
fitting = part_fits {next = 1} 1 refl refl (none_left refl)

differing : CheckRun 0 (entry 0 ∷ []) (entry 1) (Differs 0)
unfolding compared_at
differing = part_differs refl

fits : Ok 1 ≡ checked_as (joined_bytes (whole-number ∷ [])) (entry 0)
fits = run_checks [] (whole-number ∷ []) (entry 0 ∷ []) last end.Whole (entry 0) (Ok 1) the-run fitting

differs : Differs 0 ≡ checked_as (joined_bytes (whole-number ∷ [])) (entry 1)
differs = run_checks [] (whole-number ∷ []) (entry 0 ∷ []) last end.Whole (entry 1) (Differs 0) the-run differing
