-- Every loop that comes to the end of a recording has written the slide of what was read: by the law for any row of buffers.
use mathlib.Core.Path.{◌≡◌, refl, ap, sym, subst, subst⁻¹, ◌∙◌}
use mathlib.Core.Bool.{Bool, true, false, cond}
use mathlib.Core.List.{List, [], ◌∷◌, ◌++◌, append-nil}
use Prim.Native.Nat.{ℕ, ◌+◌, ◌-◌}
use native.Mathlib.Omega.{arith}
use lib.Dec.{ltb}
use lib.ListN.{take, drop}
use Rattle.wire.specs.Limits.{longest}
use Rattle.wire.proofs.Choices.{by-test}
use Rattle.results.specs.declared.End.{End}
use Rattle.results.specs.declared.End.TheVariants as end
use Rattle.folding.specs.Folding.{Fold, folded, with_sum, fold_of, goes_on, joined_bytes, through_buffers}
use Rattle.folding.specs.Walks.{MayContinue}
use Rattle.folding.proofs.Cut.{cut_anywhere}
use Rattle.walks.specs.Walks.{reads_on}
use Rattle.walks.proofs.Steps.{goes_further}
use Rattle.walks.specs.declared.Position.{Position}
use Rattle.slides.specs.Slides.{sliding, slide_of}
use Rattle.slides.proofs.Puts.{drop-take}
use Rattle.slides.proofs.Files.{sliding-sound, slide_any_buffers}
use Rattle.slide_walks.specs.Turns.{Turns}
use Rattle.slide_walks.specs.declared.Turn.{Turn}
use Rattle.slide_walks.specs.declared.Turn.TheVariants as turn
use Rattle.tool_walks.specs.Runs.{BufferHolds}
use Rattle.tool_recordings.specs.declared.Came.{Came}
use Rattle.tool_recordings.specs.declared.Came.TheVariants.{On, Ended}
use Rattle.tool_shifts.specs.Slid.{slid_by, after_bytes, came_after, StandsAfter, SlidBuffer, slide_fails, slid_buffer}
use Rattle.tool_shifts.specs.Slid.{SlideLoop, slides_on, slides_last, LoopSlides}

-- a turn over what was kept and a portion: the bytes that it has written are their slide, and what is left of them is kept
record Took (by : ℕ) (from : Position) (before kept fresh : List ℕ) (next : Position) (why : End) : Type 0 where
  portion : List ℕ
  tells : slide_of by from.at (take from.kept before ++ portion) ≡ folded fresh next.at why
  keeps : take next.kept kept ≡ drop (next.at - from.at) (take from.kept before ++ portion)

slid-is : {buf slid : List ℕ} {count by : ℕ} {t : Turn} (w : Turns buf count by t slid) → slid_by t ≡ w.used
slid-is {count = count} {t = t} w =
    subst⁻¹ (λ (x : Turn). slid_by x ≡ w.used) w.decides
    (by-test (λ (x : Turn). slid_by x ≡ w.used) (reads_on (ltb count longest) w.why) (λ _. refl) (λ _. refl))

module _ {by : ℕ} {from : Position} {before kept fresh portion buf slid : List ℕ} {count : ℕ} {t : Turn} {r : Came}
    (h : BufferHolds from before portion count buf) (w : Turns buf count by t slid) (f : fresh ≡ take (slid_by t) slid)
    (s : StandsAfter from count t slid kept r) where
  cut_at : (l : List ℕ) → drop w.used (take count l) ≡ take (count - w.used) (drop w.used l)
  cut_at l =
      let all : count ≡ w.used + (count - w.used) = omega (arith, w.within) in
      ap (λ (n : ℕ). drop w.used (take n l)) all ∙ drop-take w.used (count - w.used) l

  rest : take (count - w.used) kept ≡ drop w.used (take from.kept before ++ portion)
  rest =
      ap (λ (n : ℕ). take (count - n) kept) (sym (slid-is w))
      ∙ s.rest.bytes
      ∙ ap (λ (n : ℕ). drop n (take count slid)) (slid-is w)
      ∙ cut_at slid
      ∙ ap (take (count - w.used)) w.keeps
      ∙ sym (cut_at buf)
      ∙ ap (drop w.used) h.is

  took : {next : Position} {why : End} → next ≡ after_bytes from count w.used → w.why ≡ why → Took by from before kept fresh next why
  took {next} {why} e x =
      let used : from.at + w.used - from.at ≡ w.used = omega arith in
      subst (Took by from before kept fresh next) x
      (subst⁻¹ (λ (p : Position). Took by from before kept fresh p w.why) e
      (record {
        portion = portion;
        tells = ap (slide_of by from.at) (sym h.is) ∙ w.tells from.at
            ∙ ap (λ (l : List ℕ). folded l (from.at + w.used) w.why)
            (ap (λ (n : ℕ). take n slid) (sym (slid-is w)) ∙ sym f);
        keeps = rest ∙ ap (λ (n : ℕ). drop n (take from.kept before ++ portion)) (sym used);
      }))

  -- what the walk came to, by whether it is read on
  abbrev came_in : Bool → Came
  came_in b = came_after from count (cond b (turn.On w.used) (turn.Ended w.used w.why))

  came-is : r ≡ came_in (reads_on (ltb count longest) w.why)
  came-is = s.came ∙ ap (came_after from count) w.decides

-- a turn that goes on
took-on : {by : ℕ} {from next : Position} {before kept fresh : List ℕ} → SlidBuffer by from before kept fresh (On next)
    → (why : End) × MayContinue why × Took by from before kept fresh next why
took-on (slide_fails e) = let z : ◌≡◌ {A = ℕ} 0 1 = cc in absurd (omega arith)
took-on {by} {from} {next} {before} {kept} {fresh} (slid_buffer {count = count} full here near h w f s) =
    by_read (reads_on (ltb count longest) w.why) refl (came-is h w f s)
  where
    by_read : (b : Bool) → reads_on (ltb count longest) w.why ≡ b → On next ≡ came_in h w f s b
        → (why : End) × MayContinue why × Took by from before kept fresh next why
    by_read true on e = (w.why, (goes_further count w.why on).0, took h w f s (cc) refl)
    by_read false on e = let z : ◌≡◌ {A = ℕ} 0 1 = cc in absurd (omega arith)

-- and one that ends
took-last : {by : ℕ} {from last : Position} {why : End} {before kept fresh : List ℕ} → SlidBuffer by from before kept fresh (Ended last why)
    → Took by from before kept fresh last why
took-last (slide_fails e) = let z : ◌≡◌ {A = ℕ} 0 1 = cc in absurd (omega arith)
took-last {by} {from} {last} {why} {before} {kept} {fresh} (slid_buffer {count = count} full here near h w f s) =
    by_read (reads_on (ltb count longest) w.why) (came-is h w f s)
  where
    by_read : (b : Bool) → Ended last why ≡ came_in h w f s b → Took by from before kept fresh last why
    by_read true e = let z : ◌≡◌ {A = ℕ} 0 1 = cc in absurd (omega arith)
    by_read false e = took h w f s (cc) (cc)

-- a fold that may go on goes on
on-with : (by : ℕ) (go : ℕ → Fold (List ℕ)) (sum : List ℕ) (at : ℕ) (why : End) → MayContinue why
    → goes_on (sliding by) go (folded sum at why) ≡ with_sum (sliding by) sum (go at)
on-with by go sum at end.Whole g = refl
on-with by go sum at end.Waiting g = refl
on-with by go sum at (end.Refused k) g = absurd g

-- the last buffer: what is folded with nothing more is the fold
one-buffer : (by base : ℕ) (kept portion : List ℕ)
    → through_buffers (sliding by) base kept (portion ∷ []) ≡ slide_of by base (kept ++ portion)
unfolding through_buffers
one-buffer by base kept portion =
    let l : List ℕ = kept ++ portion in
    by-fold (fold_of (sliding by) base l)
    ∙ sym (cut_anywhere (sliding by) (sliding-sound by) base l [])
    ∙ ap (fold_of (sliding by) base) (append-nil l)
  where
    by-fold : (x : Fold (List ℕ)) → goes_on (sliding by) (λ at. fold_of (sliding by) at (drop (at - base) (kept ++ portion))) x
        ≡ goes_on (sliding by) (λ at. fold_of (sliding by) at (drop (at - base) (kept ++ portion) ++ [])) x
    by-fold (folded sum at end.Whole) = rw (append-nil (drop (at - base) (kept ++ portion)))
    by-fold (folded sum at end.Waiting) = rw (append-nil (drop (at - base) (kept ++ portion)))
    by-fold (folded sum at (end.Refused k)) = refl

through : {by : ℕ} {why : End} {last from : Position} {before : List ℕ} {parts : List (List ℕ)}
    → SlideLoop by (Ended last why) from before parts
    → (portions : List (List ℕ))
    × (through_buffers (sliding by) from.at (take from.kept before) portions ≡ folded (joined_bytes parts) last.at why)
unfolding through_buffers joined_bytes
through {by} {why} {last} {from} {before} (slides_on {next = next} {fresh = fresh} {parts = parts} b l) =
    let o = took-on b in
    let t = o.2 in
    let i = through l in
    let go : ℕ → Fold (List ℕ)
    = λ at. through_buffers (sliding by) at (drop (at - from.at) (take from.kept before ++ t.portion)) i.0 in (
      t.portion ∷ i.0,
      ap (goes_on (sliding by) go) t.tells
          ∙ on-with by go fresh next.at o.0 o.1
          ∙ ap (λ (k : List ℕ). with_sum (sliding by) fresh (through_buffers (sliding by) next.at k i.0)) (sym t.keeps)
          ∙ ap (with_sum (sliding by) fresh) i.1,
    )
through {by} {why} {last} {from} {before} (slides_last {fresh = fresh} b o) =
    let t = took-last b in (
      t.portion ∷ [],
      one-buffer by from.at (take from.kept before) t.portion ∙ t.tells
          ∙ ap (λ (l : List ℕ). folded l last.at why) (sym (append-nil fresh)),
    )

pub loop-slides : LoopSlides
loop-slides by before parts last why l = let t = through l in (t.0, sym (slide_any_buffers by t.0) ∙ t.1)
