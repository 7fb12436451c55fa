-- A row of steps is a walk over the same portions, and writes the index of the whole recording.
use mathlib.Core.Path.{◌≡◌, refl, ap, sym, subst, ◌∙◌}
use mathlib.Core.Bool.{Bool, true, false, false≢true}
use mathlib.Core.List.{List, [], ◌∷◌, ◌++◌, append-nil}
use Prim.Native.Nat.{ℕ, ◌+◌, ◌*◌}
use native.Mathlib.Omega.{arith}
use borrow.Author.Tests.{le-ltb}
use lib.ListN.{length, take, drop, length-append}
use Rattle.wire.specs.Limits.{longest}
use Rattle.folding.specs.Folding.{joined_bytes}
use Rattle.folding.specs.Walks.{MayContinue, WalkStops, Walk, reads_on as read_on, stops}
use Rattle.cues.specs.Cues.{entry_size, indexing, Index, index, index_of, Indexes, IndexStep}
use Rattle.results.specs.declared.End.{End}
use Rattle.results.specs.declared.End.TheVariants as end
use Rattle.results.specs.Results.{Written}
use Rattle.recordings.proofs.Walks.{every_walk}
use Rattle.walks.specs.Walks.{is_last, reads_on}
use Rattle.walks.proofs.Steps.{goes_further}
use Rattle.walks.specs.declared.Position.{Position}
use Rattle.tool_walks.specs.Runs as runs
use Rattle.tool_walks.specs.Runs.{begun, BufferHolds, ReadFills, Run, ends, RunWalks, WritesWhole, RunWrites}
use Rattle.tool_walks.proofs.Taken.{Taken, taken-length, taken-on, taken-last}

-- a full buffer is not the last: where it is not read on, a frame was refused
stops-there : (later : List (List ℕ)) (count : ℕ) (why : End) → ReadFills later count → reads_on (is_last count) why ≡ false
    → WalkStops later why
stops-there [] count why f r = tt
stops-there (next ∷ later) count why f r = by_end why r
  where
    full : is_last count ≡ false
    full = le-ltb count longest (omega arith)

    by_end : (e : End) → reads_on (is_last count) e ≡ false → MayContinue e → ⊥
    by_end end.Whole r g = let z : true ≡ false = rw full at r in false≢true (sym z)
    by_end end.Waiting r g = let z : true ≡ false = rw full at r in false≢true (sym z)
    by_end (end.Refused k) r g = g

module _ {from : Position} {before portion buf out kept after : List ℕ} {count n : ℕ} {next : Position} {why : End}
    (h : BufferHolds from before portion count buf) (t : Taken from buf count out kept after n next why) where
  abbrev here : List ℕ
  here = take from.kept before ++ portion

  -- the step over what was kept and the portion
  taken_step : IndexStep from.at here (take n after) t.used why
  taken_step = (
    t.m,
    out,
    after,
    subst (λ (l : List ℕ). Indexes l from.at out (Written t.m t.used why) after) h.is t.steps,
    ap (λ (k : ℕ). take k after) t.bytes,
  )

  walk-on : {later parts : List (List ℕ)} {written : List ℕ} {at : ℕ} {last : End} → MayContinue why
      → Walk indexing IndexStep next.at (take next.kept kept) later parts (index written at last)
      → Walk indexing IndexStep from.at (take from.kept before) (portion ∷ later) (take n after ∷ parts)
      (index (take n after ++ written) at last)
  walk-on {later} {parts} {written} {at} {last} g w =
      let rest : take next.kept kept ≡ drop t.used here = t.keeps ∙ ap (drop t.used) h.is in
      read_on taken_step g
      (subst (λ (b : ℕ). Walk indexing IndexStep b (drop t.used here) later parts (index written at last)) t.moved
      (subst (λ (l : List ℕ). Walk indexing IndexStep next.at l later parts (index written at last)) rest w))

  walk-stops : {later : List (List ℕ)} → WalkStops later why
      → Walk indexing IndexStep from.at (take from.kept before) (portion ∷ later) (take n after ∷ [])
      (index (take n after ++ []) next.at why)
  walk-stops {later} g =
      let at : index (take n after) (from.at + t.used) why ≡ index (take n after ++ []) next.at why
      = ap (λ (l : List ℕ). index l (from.at + t.used) why) (sym (append-nil (take n after)))
      ∙ ap (λ (b : ℕ). index (take n after ++ []) b why) (sym t.moved) in
      subst (λ (i : Index). Walk indexing IndexStep from.at (take from.kept before) (portion ∷ later) (take n after ∷ []) i) at
      (stops taken_step g)

-- every run is a walk
run-walk : {from : Position} {before : List ℕ} {portions parts : List (List ℕ)} {last : Position} {why : End}
    → Run from before portions parts last why
    → Walk indexing IndexStep from.at (take from.kept before) portions parts (index (joined_bytes parts) last.at why)
unfolding joined_bytes
run-walk (runs.goes_further {count = count} h f w r) =
    let t = taken-on w in
    walk-on h t.taken (goes_further count t.why t.reads).0 (run-walk r)
run-walk (ends {later = later} {count = count} {why = why} h f w) =
    let t = taken-last w in
    walk-stops h t.taken (stops-there later count why f t.reads)

pub run-walks : RunWalks
run-walks from before portions parts last why r = run-walk r

-- it counts the records of its parts
run-counts : {from : Position} {before : List ℕ} {portions parts : List (List ℕ)} {last : Position} {why : End}
    → Run from before portions parts last why → entry_size * from.records + length (joined_bytes parts) ≡ entry_size * last.records
unfolding joined_bytes
run-counts (runs.goes_further {after = after} {parts = parts} {n = n} h f w r) =
    let t = (taken-on w).taken in
    omega (arith, length-append (take n after) (joined_bytes parts), taken-length t, t.counts, run-counts r)
run-counts (ends {after = after} {n = n} h f w) =
    let t = (taken-last w).taken in
    omega (arith, length-append (take n after) [], taken-length t, t.counts)

-- every run from the start writes the index of the whole recording
pub run_writes : RunWrites
run_writes before portions parts last why r =
    record { is = sym (every_walk portions parts _ (run-walk r)); counted = omega (arith, run-counts r) }
