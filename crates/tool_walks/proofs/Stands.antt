-- How a walk stands after a step: an invariant with nothing of the past in it, by the laws of the fold (crates/folding).
use mathlib.Core.Path.{◌≡◌, refl, ap, sym, subst, ◌∙◌}
use mathlib.Core.List.{List, [], ◌++◌}
use Prim.Native.Nat.{ℕ, ◌+◌, ◌*◌}
use native.Mathlib.Omega.{arith}
use lib.ListN.{length, take, drop, length-append}
use Rattle.folding.specs.Folding.{with_sum, fold_of}
use Rattle.folding.specs.Walks.{MayContinue, Reached, Goes}
use Rattle.folding.proofs.States as states
use Rattle.cues.specs.Cues.{entry_size, indexing, index, index_of}
use Rattle.cues.proofs.Folds.{indexing-sound}
use Rattle.results.specs.declared.End.{End}
use Rattle.results.specs.declared.End.TheVariants as end
use Rattle.walks.proofs.Steps.{goes_further}
use Rattle.walks.specs.declared.Position.{Position}
use Rattle.tool_walks.specs.Runs.{begun, BufferHolds, Stands, RunBegins, StandsOn, EndsThere, StandsEnded}
use Rattle.tool_walks.proofs.Taken.{Taken, taken-index, taken-length, taken-on, taken-last}

-- a walk begins so
pub begins : RunBegins
begins buf = record { whole = states.begins indexing indexing-sound; counted = refl }

module _ {past portion written : List ℕ} {from : Position} {before buf out kept after : List ℕ} {count n : ℕ} {next : Position} {why : End}
    (s : Stands past from before written) (h : BufferHolds from before portion count buf)
    (t : Taken from buf count out kept after n next why) where
  -- what was kept and the portion have the index of the step
  abbrev here : List ℕ
  here = take from.kept before ++ portion

  step-index : fold_of indexing from.at here ≡ index (take n after) (from.at + t.used) why
  step-index = ap (index_of from.at) (sym h.is) ∙ taken-index t

  -- how the walk goes on from where it stands
  reached : Goes indexing past from.at (take from.kept before) written
  reached = states.goes indexing indexing-sound past from.at (take from.kept before) written s.whole

  counted-on : length (written ++ take n after) ≡ entry_size * next.records
  counted-on = omega (arith, length-append written (take n after), taken-length t, s.counted, t.counts)

  -- what is kept after it
  unused : drop t.used here ≡ take next.kept kept
  unused = ap (drop t.used) (sym h.is) ∙ sym t.keeps

  -- where no frame was refused, what was not used is indexed with what comes
  stands-next : MayContinue why → Stands (past ++ portion) next kept (written ++ take n after)
  stands-next g =
      let r = reached.on portion (take n after) t.used why step-index g in
      record {
        whole =
            subst (λ (at : ℕ). Reached indexing (past ++ portion) at (take next.kept kept) (written ++ take n after)) (sym t.moved)
            (subst (λ (l : List ℕ). Reached indexing (past ++ portion) (from.at + t.used) l (written ++ take n after)) unused r);
        counted = counted-on;
      }

  -- where the walk ends, the index of all that was read ends too
  ends_there : EndsThere past portion written from before buf out kept after count n next why
  ends_there =
      record {
        read = s.whole portion ∙ ap (with_sum indexing written) step-index ∙ moved;
        later = λ g more. by_end why refl g more;
        counted = counted-on;
      }
    where
      moved : index (written ++ take n after) (from.at + t.used) why ≡ index (written ++ take n after) next.at why
      moved = ap (λ (b : ℕ). index (written ++ take n after) b why) (sym t.moved)

      by_end : (e : End) → why ≡ e → (MayContinue why → ⊥) → (more : List ℕ)
          → index_of 0 ((past ++ portion) ++ more) ≡ index (written ++ take n after) next.at why
      by_end end.Whole q g more = absurd (g (subst MayContinue (sym q) tt))
      by_end end.Waiting q g more = absurd (g (subst MayContinue (sym q) tt))
      by_end (end.Refused k) q g more =
          reached.stop portion (take n after) t.used k (step-index ∙ ap (index (take n after) (from.at + t.used)) q) more
          ∙ ap (index (written ++ take n after) (from.at + t.used)) (sym q) ∙ moved

pub stands_on : (past portion written : List ℕ) (from : Position) (before buf out kept after : List ℕ) (count n : ℕ)
    → StandsOn past portion written from before buf out kept after count n
stands_on past portion written from before buf out kept after count n next s h w =
    let t = taken-on w in
    stands-next s h t.taken (goes_further count t.why t.reads).0

pub stands-ended : (past portion written : List ℕ) (from : Position) (before buf out kept after : List ℕ) (count n : ℕ)
    → StandsEnded past portion written from before buf out kept after count n
stands-ended past portion written from before buf out kept after count n last why s h w = ends_there s h (taken-last w).taken
