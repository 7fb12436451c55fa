-- The turns of the program's loop: what a comparison hands on, what a turn is made of, and that the numbers of a walk stay low.
use mathlib.Core.Path.{◌≡◌, ap, sym, subst, subst⁻¹, ◌∙◌}
use mathlib.Core.List.{List, [], ◌++◌}
use Prim.Native.Nat.{ℕ, ◌+◌, ◌≤◌}
use native.Mathlib.Omega.{arith}
use lib.ListN.{length, take, drop, take-append-drop}
use lib.Seq.{take-take}
use Rattle.wire.specs.Limits.{longest}
use Rattle.files.specs.Rest.{ReadsOn, ReadOn}
use Rattle.files.specs.declared.pieces.Unread.{Unread}
use Rattle.results.specs.Results.{Checked}
use Rattle.std.specs.Prelude.{Result, Ok, Err}
use Rattle.cues.specs.Checks.{compared, numbered_from}
use Rattle.outcomes.specs.Cued.{ChecksPart}
use Rattle.walks.specs.Walks.{WalkStep, LowAfter}
use Rattle.walks.specs.declared.Position.{Position}
use Rattle.walks.specs.declared.Walked.{Walked}
use Rattle.walks.specs.declared.Walked.TheVariants as walked
use Rattle.tool_walks.specs.Runs.{BufferHolds}
use Rattle.tool_recordings.specs.CodeCame.{LowCame, StaysOrFails, stays, fails}
use Rattle.tool_recordings.specs.Loops as loops
use Rattle.tool_recordings.specs.Loops.{fresh_in, came_by, came_if, ComparedOn, HandedOn, Turn, TurnsTo}
use Rattle.tool_recordings.specs.declared.Aim.{Aim}
use Rattle.tool_recordings.specs.declared.Came.{Came}
use Rattle.tool_recordings.specs.declared.Came.TheVariants.{On, Ended, Differs, Failed}

-- records that were compared with the first n bytes of what was read
pub compared-came : (n : ℕ) {next : Came} {before : ℕ} {fresh there given : List ℕ} {r c : Checked} → n ≤ length fresh
    → ChecksPart before fresh given r → given ≡ take n there → r ≡ c → ComparedOn before fresh there next (came_if c next)
compared-came n {next} {before} {fresh} few part f e =
    loops.compared_with n few
    (ap (λ (x : Checked). came_if x next) (sym e ∙ part.answers ∙ ap (λ (l : List ℕ). numbered_from before (compared fresh l)) f))

-- what a read that did not fail does to a buffer
pub read-on : {kept n : ℕ} {buf after : List ℕ} {r : Result ℕ Unread} → ReadOn kept buf after r → r ≡ Ok n → ReadsOn kept buf after n
read-on {kept} {buf = buf} {after} reads e = subst (ReadOn kept buf after) e reads

-- the first bytes of a buffer are those that were kept and those that were read after them
pub holds : (from : Position) (before buf : List ℕ) (count : ℕ) → ReadsOn from.kept before buf count
    → BufferHolds from before (drop from.kept (take count buf)) count buf
holds from before buf count reads =
    let kept : take from.kept (take count buf) ≡ take from.kept before
    = take-take from.kept count buf reads.more ∙ reads.stays in
    record {
      is = sym (take-append-drop from.kept (take count buf))
          ∙ ap (λ (l : List ℕ). l ++ drop from.kept (take count buf)) kept;
    }

-- a turn: a read, a step that came to s, and its records handed on
pub turn : {aim : Aim} {from : Position} {before buf kept out after there fresh : List ℕ} {count : ℕ} {step s : Walked} {r : Came}
    → count ≤ longest → ReadsOn from.kept before buf count → WalkStep from buf count out step kept after → step ≡ s
    → fresh ≡ fresh_in s after → HandedOn aim from.records fresh there (came_by s) r → TurnsTo aim from before kept out after there r
turn {from = from} {before} {buf} {kept} {out} {after} {fresh = fresh} {count} small reads steps e f handed =
    record {
      fresh = fresh;
      is = loops.turned small (holds from before buf count reads)
          (subst (λ (w : Walked). WalkStep from buf count out w kept after) e steps) f handed;
    }

-- a turn that failed
pub no-turn : {aim : Aim} {from : Position} {before kept out after there : List ℕ} {r : Came} → r ≡ Failed
    → TurnsTo aim from before kept out after there r
no-turn e = record { fresh = []; is = loops.turn_fails e }

-- a turn after which the recording is found to be shorter has failed
pub turn-or-fails : {aim : Aim} {from : Position} {before kept out after there : List ℕ} {came r : Came}
    → StaysOrFails came r → TurnsTo aim from before kept out after there came → TurnsTo aim from before kept out after there r
turn-or-fails {aim} {from} {before} {kept} {out} {after} {there} (stays e) t =
    subst⁻¹ (TurnsTo aim from before kept out after there) e t
turn-or-fails (fails e) t = no-turn e

-- ---- numbers stay low

low-if : (least : ℕ) (c : Checked) (next : Came) → LowCame least next → LowCame least (came_if c next)
low-if least (Ok k) next low = low
low-if least (Err differs) next low = tt

-- what was so of a walk is still so where its records are handed on
pub handed-low : {aim : Aim} {before : ℕ} {fresh there : List ℕ} {next r : Came} (least : ℕ)
    → HandedOn aim before fresh there next r → LowCame least next → LowCame least r
handed-low least (loops.write_fails e) low = subst⁻¹ (LowCame least) e tt
handed-low least (loops.written a e) low = subst⁻¹ (LowCame least) e low
handed-low least (loops.compared_on a (loops.compare_fails e)) low = subst⁻¹ (LowCame least) e tt
handed-low {before = before} {fresh} {there} {next} least (loops.compared_on a (loops.compared_with n few e)) low =
    subst⁻¹ (LowCame least) e (low-if least (numbered_from before (compared fresh (take n there))) next low)

step-low : (from : Position) (room : ℕ) (s : Walked) → LowAfter from room s → LowCame (from.at + 1) (came_by s)
step-low from room (walked.On n next) low = (low.0, omega (arith, low.1))
step-low from room (walked.Ended n last why) low = low.0
step-low from room walked.TooLong low = tt

-- a turn leaves the numbers low, and moves the walk on
pub turn_low : {aim : Aim} {from : Position} {before kept out after there fresh : List ℕ} {r : Came}
    → Turn aim from before kept out after there fresh r
    → LowCame (from.at + 1) r
turn_low {from = from} (loops.turn_fails e) = subst⁻¹ (LowCame (from.at + 1)) e tt
turn_low {from = from} {out = out} (loops.turned {step = step} small holds steps f handed) =
    handed-low (from.at + 1) handed (step-low from (length out) step steps.low)

-- a walk that is not before an offset is not before 0
pub low-at-all : (least : ℕ) (r : Came) → LowCame least r → LowCame 0 r
low-at-all least (On next) low = (low.0, omega arith)
low-at-all least (Ended last why) low = low
low-at-all least (Differs k) low = tt
low-at-all least Failed low = tt
