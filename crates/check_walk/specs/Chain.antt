-- Ticket 5 at the C boundary: a program walks over a recording by `osc_index_step`, and checks what each step has written by
-- `osc_index_check_step`, whose answer is the `from` of the next.
use Rattle.std.specs.Prelude.{◌≡◌, cond, List, [], ◌∷◌, ℕ, ◌<◌, eqb, length, take, drop}
use Rattle.folding.specs.Folding.{joined_bytes}
use Rattle.folding.specs.Walks.{Walk}
use Rattle.cues.specs.Cues.{indexing, Index, index_of, written_of, IndexStep}
use Rattle.cues.specs.Checks.{checked_as}
use Rattle.told.specs.Told.{refusal_in}
use Rattle.told.specs.Answers.{checked_number}
use Rattle.apart.specs.Boundary.{most_checked, check_number}

-- a check goes on with the number that was told, unless a refusal or 25 stands in it
abbrev pub unless_refused : (ℕ → ℕ) → ℕ → ℕ
unless_refused next told = cond (eqb (refusal_in told) 0) (next told) told

-- what is told in the end: each part against as many bytes of the given index, or those that it still has; and after the last part nothing
-- against what it still has
unfoldable pub chained : ℕ → List (List ℕ) → List ℕ → ℕ
chained from [] given = check_number [] given from
chained from (part ∷ later) given =
    unless_refused (λ told. chained told later (drop (length part) given)) (check_number part (take (length part) given) from)

-- a walk so checked tells what the check of all says: how many records the index has, or 25 and the first that differs
abbrev pub WalkTells : Type 0
WalkTells =
    (portions parts : List (List ℕ)) (i : Index) (given : List ℕ) → Walk indexing IndexStep 0 [] portions parts i
    → length (written_of (index_of 0 (joined_bytes portions))) < most_checked → length given < most_checked
    → chained 0 parts given ≡ checked_number (checked_as (joined_bytes portions) given)
