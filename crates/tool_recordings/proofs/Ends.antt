-- Every loop that comes to the end of a recording is a run of the walk's steps, whose parts it has handed on.
use mathlib.Core.Path.{◌≡◌, refl, subst, subst⁻¹}
use mathlib.Core.Bool.{Bool, true, false}
use mathlib.Core.List.{List, [], ◌∷◌}
use Prim.Native.Nat.{ℕ}
use native.Mathlib.Omega.{arith}
use borrow.Author.Tests.{ltb-true, ltb-false}
use lib.Dec.{ltb}
use lib.ListN.{take}
use Rattle.wire.specs.Limits.{longest}
use Rattle.cues.specs.Checks.{compared, numbered_from}
use Rattle.results.specs.Results.{Checked}
use Rattle.std.specs.Prelude.{Ok, Err}
use Rattle.results.specs.declared.End.{End}
use Rattle.walks.specs.Walks.{WalkStep}
use Rattle.walks.proofs.Steps.{goes_further}
use Rattle.walks.specs.declared.Position.{Position}
use Rattle.walks.specs.declared.Walked.{Walked}
use Rattle.walks.specs.declared.Walked.TheVariants as walked
use Rattle.tool_walks.specs.Runs as runs
use Rattle.tool_walks.specs.Runs.{BufferHolds, ReadFills, Run}
use Rattle.tool_walks.proofs.Taken.{taken-on}
use Rattle.tool_walks.proofs.Runs.{run_writes}
use Rattle.tool_recordings.specs.Loops as loops
use Rattle.tool_recordings.specs.Loops.{fresh_in, came_by, came_if, HandedOn, Turn, Looped, EveryLoop, LoopWrites}
use Rattle.tool_recordings.specs.declared.Aim.{Aim}
use Rattle.tool_recordings.specs.declared.Came.{Came}
use Rattle.tool_recordings.specs.declared.Came.TheVariants.{On, Ended, Differs, Failed}

-- a walk that stands at a position: it goes on, or ended
abbrev Stands : Came → Type 0
Stands (On next) = Unit {0}
Stands (Ended last why) = Unit {0}
Stands (Differs k) = ⊥
Stands Failed = ⊥

as-compared : (c : Checked) (next r : Came) → Stands r → r ≡ came_if c next → r ≡ next
as-compared (Ok k) next r s e = e
as-compared (Err differs) next r s e = absurd (subst Stands e s)

-- where it stands after its records are handed on, it stood before
as-handed : {aim : Aim} {before : ℕ} {fresh there : List ℕ} {next : Came} (r : Came) → Stands r → HandedOn aim before fresh there next r
    → r ≡ next
as-handed r s (loops.write_fails e) = absurd (subst Stands e s)
as-handed r s (loops.written a e) = e
as-handed r s (loops.compared_on a (loops.compare_fails e)) = absurd (subst Stands e s)
as-handed {before = before} {fresh} {there} {next} r s (loops.compared_on a (loops.compared_with n few e)) =
    as-compared (numbered_from before (compared fresh (take n there))) next r s e

-- what is followed by a run has filled its buffer
fills : {p last : Position} {b : List ℕ} {later parts : List (List ℕ)} {why : End} (count : ℕ) → count ≡ longest
    → Run p b later parts last why → ReadFills later count
fills count full (runs.goes_further h f w r) = full
fills count full (runs.ends h f w) = full

module _ {aim : Aim} {from : Position} {before kept out after there fresh : List ℕ} where
  -- a turn that goes on is a step of a run
  on : {next last : Position} {why : End} {later parts : List (List ℕ)} → Turn aim from before kept out after there fresh (On next)
      → Run next kept later parts last why → (portions : List (List ℕ)) × Run from before portions (fresh ∷ parts) last why
  on (loops.turn_fails e) r = absurd (subst Stands e tt)
  on {next} {last} {why} {later} {parts} (loops.turned {portion} {buf} {count} {step} small h w f handed) r =
      by-step step w f (as-handed (On next) tt handed)
    where
      by-step : (s : Walked) → WalkStep from buf count out s kept after → fresh ≡ fresh_in s after → On next ≡ came_by s
          → (portions : List (List ℕ)) × Run from before portions (fresh ∷ parts) last why
      by-step (walked.On n to) w f e =
          let same : to ≡ next = cc in
          let t = taken-on w in
          let on : WalkStep from buf count out (walked.On n next) kept after
          = subst (λ (p : Position). WalkStep from buf count out (walked.On n p) kept after) same w in
          let full : count ≡ longest = omega (arith, small, (goes_further count t.why t.reads).1) in (
            portion ∷ later,
            subst⁻¹ (λ (l : List ℕ). Run from before (portion ∷ later) (l ∷ parts) last why) f
                (runs.goes_further h (fills count full r) on r),
          )
      by-step (walked.Ended n to end) w f e = let z : ◌≡◌ {A = ℕ} 0 1 = cc in absurd (omega arith)
      by-step walked.TooLong w f e = let z : ◌≡◌ {A = ℕ} 0 1 = cc in absurd (omega arith)

  -- and one that ends is its last
  last_one : {last : Position} {why : End} → Turn aim from before kept out after there fresh (Ended last why)
      → (portions : List (List ℕ)) × Run from before portions (fresh ∷ []) last why
  last_one (loops.turn_fails e) = absurd (subst Stands e tt)
  last_one {last} {why} (loops.turned {portion} {buf} {count} {step} small h w f handed) =
      by-step step w f (as-handed (Ended last why) tt handed)
    where
      by-step : (s : Walked) → WalkStep from buf count out s kept after → fresh ≡ fresh_in s after → Ended last why ≡ came_by s
          → (portions : List (List ℕ)) × Run from before portions (fresh ∷ []) last why
      by-step (walked.On n to) w f e = let z : ◌≡◌ {A = ℕ} 0 1 = cc in absurd (omega arith)
      by-step (walked.Ended n to end) w f e = by-test (ltb count longest) refl
        where
          same : {portions : List (List ℕ)} → Run from before portions (take n after ∷ []) to end
              → Run from before portions (fresh ∷ []) last why
          same {portions} r =
              let at : to ≡ last = cc in
              let ended : end ≡ why = cc in
              subst (Run from before portions (fresh ∷ []) last) ended
              (subst (λ (p : Position). Run from before portions (fresh ∷ []) p end) at
              (subst⁻¹ (λ (l : List ℕ). Run from before portions (l ∷ []) to end) f r))

          by-test : (b : Bool) → ltb count longest ≡ b → (portions : List (List ℕ)) × Run from before portions (fresh ∷ []) last why
          by-test true t = (portion ∷ [], same (runs.ends h (ltb-true count longest t) w))
          by-test false t = (portion ∷ [] ∷ [], same (runs.ends h (omega (arith, small, ltb-false count longest t)) w))
      by-step walked.TooLong w f e = let z : ◌≡◌ {A = ℕ} 0 1 = cc in absurd (omega arith)

-- every loop
every : {aim : Aim} {why : End} {last from : Position} {before : List ℕ} {parts : List (List ℕ)}
    → Looped aim (Ended last why) from before parts → (portions : List (List ℕ)) × Run from before portions parts last why
every (loops.turns_on t l) = on t (every l).1
every (loops.turns_last t o) = last_one t

pub every-loop : EveryLoop
every-loop aim from before parts last why l = every l

pub loop_writes : LoopWrites
loop_writes aim before parts last why l = let r = every l in (r.0, run_writes before r.0 parts last why r.1)
