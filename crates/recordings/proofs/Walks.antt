-- Ticket 5 of a recording in portions, by the laws of the fold (crates/folding): an index is written in one go or in two, and by every
-- program that walks over it; and a walk that checks its parts answers as the check of all does.
use mathlib.Core.Path.{◌≡◌, refl, ap, ◌∙◌}
use mathlib.Core.List.{List, [], ◌∷◌, ◌++◌}
use Prim.Native.Nat.{ℕ, ◌*◌, ◌%◌}
use native.Mathlib.Omega.{arith}
use lib.ListN.{length}
use lib.Seq.{length-take-le}
use Rattle.folding.specs.Folding.{joined_bytes}
use Rattle.folding.specs.Walks.{Walk, done, reads_on, stops, joined_sums}
use Rattle.folding.proofs.Cut.{cut_anywhere, read-is-whole}
use Rattle.folding.proofs.Walks as walks
use Rattle.folding.proofs.Walks.{walk_in_parts}
use Rattle.cues.specs.Cues.{entry_size, indexing, Index, written_of, index_of, IndexStep}
use Rattle.cues.specs.Checks.{compared}
use Rattle.results.specs.declared.End.{End}
use Rattle.cues.proofs.Steps.{stepped}
use Rattle.cues.proofs.Folds.{indexing-sound, indexing-own, step-tells}
use Rattle.recordings.specs.Recordings.{CutIndex, IndexReadIsWhole, EveryWalk, WholeRecords, WalkChecks}
use Rattle.recordings.proofs.Parts.{every_check}

-- an index is written in one go or in two
pub cut_index : CutIndex
cut_index = cut_anywhere indexing indexing-sound

-- what was read is a recording of its own
pub index-read-is-whole : IndexReadIsWhole
index-read-is-whole = read-is-whole indexing indexing-sound indexing-own

-- Ticket 5: every walk over a recording in portions writes the index of the whole
pub every_walk : EveryWalk
every_walk = walks.every_walk indexing indexing-sound IndexStep step-tells

-- ---- a walk that checks

-- the records of a step are whole
part-whole : (base : ℕ) (l written : List ℕ) (used : ℕ) (why : End) → IndexStep base l written used why → length written % entry_size ≡ 0
part-whole base l written used why p =
    let s = stepped p.3 in
    let long = length-take-le (entry_size * p.0) p.2 (omega (arith, s.room, s.same)) in
    omega (arith, long, ap length p.4)

parts_whole : {base : ℕ} {kept : List ℕ} {portions parts : List (List ℕ)} {i : Index} → Walk indexing IndexStep base kept portions parts i
    → WholeRecords parts
parts_whole done = tt
parts_whole {base} {kept} (reads_on {used = used} {portion = portion} {sum = sum} {why = why} w g rest) =
    (part-whole base (kept ++ portion) sum used why w, parts_whole rest)
parts_whole {base} {kept} (stops {used = used} {portion = portion} {sum = sum} {why = why} w h) =
    (part-whole base (kept ++ portion) sum used why w, tt)

parts-joined : (parts : List (List ℕ)) → joined_bytes parts ≡ joined_sums indexing parts
unfolding joined_bytes joined_sums
parts-joined [] = refl
parts-joined (part ∷ later) = ap (λ (m : List ℕ). part ++ m) (parts-joined later)

-- the records of a walk, part by part, are the index of the whole
pub walk-written : (portions parts : List (List ℕ)) (i : Index) → Walk indexing IndexStep 0 [] portions parts i
    → joined_bytes parts ≡ written_of (index_of 0 (joined_bytes portions))
walk-written portions parts i w = parts-joined parts ∙ walk_in_parts indexing indexing-sound IndexStep step-tells portions parts i w

-- Ticket 5: checked part by part, they are checked as all of them are
pub walk_checks : WalkChecks
walk_checks portions parts i given w =
    every_check parts given (parts_whole w) ∙ ap (λ (fresh : List ℕ). compared fresh given) (walk-written portions parts i w)
