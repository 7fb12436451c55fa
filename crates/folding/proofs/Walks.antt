-- Law (c): every walk over a recording in portions, by any step that tells the fold of its buffer, ends with the fold of the whole; and
-- there is one through any row of buffers.
use mathlib.Core.Path.{◌≡◌, refl, ap, sym, subst, ◌∙◌}
use mathlib.Core.List.{List, [], ◌∷◌, ◌++◌, append_assoc, append-nil}
use Prim.Native.Nat.{ℕ, ◌+◌, ◌-◌, ◌≤◌}
use native.Mathlib.Omega.{arith}
use lib.ListN.{length, drop, length-append, length-drop}
use Rattle.refusal.specs.declared.Refusal.{Refusal}
use Rattle.results.specs.declared.End.{End}
use Rattle.results.specs.declared.End.TheVariants as end
use Rattle.folding.specs.Folding.{Fold, folded, Folding, with_sum, fold_of, sum_in, Sound}
use Rattle.folding.specs.Folding.{continued, joined_bytes}
use Rattle.folding.specs.Walks.{MayContinue, end_with, WalkStops, Stepping, Walk, done, reads_on, stops, TellsFold, CanStep}
use Rattle.folding.specs.Walks.{EveryWalk, AnyWalk, joined_sums, WalkInParts}
use Rattle.folding.proofs.Knot.{fold-eq}
use Rattle.folding.proofs.Framed.{Framed, ends, lacks, fails, frame, framed, framed_is, framed-in, framed-rest}
use Rattle.folding.proofs.Cut.{cut_anywhere}

module _ {A : Type 0} (f : Folding A) (s : Sound f) where
  -- what is kept adds nothing, and no frame of it is refused
  abbrev pub Rests : ℕ → List ℕ → Type 0
  Rests base kept = fold_of f base kept ≡ folded f.unit base (end_with kept)

  -- where nothing was read and no frame refused, the bytes tell why
  left_end : {base at : ℕ} {l : List ℕ} {sum : A} {why : End} → Framed f base l (folded sum at why) → at ≡ base → MayContinue why
      → why ≡ end_with l
  left_end ends e g = refl
  left_end {l = []} (lacks some q) e g = absurd (omega arith)
  left_end {l = x ∷ l} (lacks some q) e g = refl
  left_end (fails some q) e g = absurd g
  left_end (frame some q h r) e g = absurd (omega (arith, (framed-in r).0))

  module _ (base : ℕ) (l : List ℕ) (sum : A) (used : ℕ) (why : End) (e : fold_of f base l ≡ folded sum (base + used) why) where
    pub there : base + used - base ≡ used
    there = omega arith

    pub here : Framed f base l (folded sum (base + used) why)
    here = subst (Framed f base l) e (framed f s.inside base l)

    -- what a step leaves adds nothing
    pub rests : MayContinue why → Rests (base + used) (drop used l)
    rests g =
        let r : Framed f (base + used) (drop used l) (folded f.unit (base + used) why)
        = subst (λ (k : ℕ). Framed f (base + used) (drop k l) (folded f.unit (base + used) why)) there (framed-rest here) in
        framed_is f s.inside r ∙ ap (folded f.unit (base + used)) (left_end r refl g)

    -- all that is to come, by the step
    by-step : (more : List ℕ) → fold_of f base (l ++ more) ≡ continued f base l more (folded sum (base + used) why)
    by-step more = cut_anywhere f s base l more ∙ ap (continued f base l more) e

    -- where no frame was refused, the fold goes on
    pub goes_further : (more : List ℕ) → MayContinue why
        → fold_of f base (l ++ more) ≡ with_sum f sum (fold_of f (base + used) (drop used l ++ more))
    goes_further more g =
        by-step more ∙ by_end why g ∙ ap (λ (k : ℕ). with_sum f sum (fold_of f (base + used) (drop k l ++ more))) there
      where
        by_end : (x : End) → MayContinue x
            → continued f base l more (folded sum (base + used) x)
            ≡ with_sum f sum (fold_of f (base + used) (drop (base + used - base) l ++ more))
        by_end end.Whole h = refl
        by_end end.Waiting h = refl
        by_end (end.Refused k) h = absurd h

    -- and else it ends there
    pub ends-here : (more : List ℕ) → (MayContinue why → ⊥) → fold_of f base (l ++ more) ≡ folded sum (base + used) why
    ends-here more h = by-step more ∙ by_end why h
      where
        by_end : (x : End) → (MayContinue x → ⊥) → continued f base l more (folded sum (base + used) x) ≡ folded sum (base + used) x
        by_end end.Whole g = absurd (g tt)
        by_end end.Waiting g = absurd (g tt)
        by_end (end.Refused k) g = refl

  -- a portion more, and what comes later
  in_two : (base : ℕ) (kept portion more : List ℕ) → fold_of f base (kept ++ (portion ++ more)) ≡ fold_of f base ((kept ++ portion) ++ more)
  in_two base kept portion more = ap (fold_of f base) (sym (append_assoc kept portion more))

  module _ (Step : Stepping A) (tells : TellsFold f Step) where
    walk-whole : {base : ℕ} {kept : List ℕ} {portions : List (List ℕ)} {sums : List A} {i : Fold A}
        → Walk f Step base kept portions sums i → Rests base kept → i ≡ fold_of f base (kept ++ joined_bytes portions)
    unfolding joined_bytes
    walk-whole {base} {kept} done q = sym (ap (fold_of f base) (append-nil kept) ∙ q)
    walk-whole {base} {kept} (reads_on {used = used} {portion = portion} {later = later} {sum = sum} {why = why} w g rest) q =
        let l = kept ++ portion in
        let e = tells base l sum used why w in
        ap (with_sum f sum) (walk-whole rest (rests base l sum used why e g))
        ∙ sym (in_two base kept portion (joined_bytes later) ∙ goes_further base l sum used why e (joined_bytes later) g)
    walk-whole {base} {kept} (stops {used = used} {portion = portion} {later = []} {sum = sum} {why = why} w h) q =
        sym (ap (λ (m : List ℕ). fold_of f base (kept ++ m)) (append-nil portion) ∙ tells base (kept ++ portion) sum used why w)
    walk-whole {base} {kept} (stops {used = used} {portion = portion} {later = next ∷ later} {sum = sum} {why = why} w h) q =
        let l = kept ++ portion in
        let e = tells base l sum used why w in
        let more = joined_bytes (next ∷ later) in
        sym (in_two base kept portion more ∙ ends-here base l sum used why e more h)

    -- law (c)
    pub every_walk : EveryWalk f Step
    every_walk portions sums i w = walk-whole w (fold-eq f s.inside 0 [])

    sums-joined : {base : ℕ} {kept : List ℕ} {portions : List (List ℕ)} {sums : List A} {i : Fold A}
        → Walk f Step base kept portions sums i → joined_sums f sums ≡ sum_in i
    unfolding joined_sums
    sums-joined done = refl
    sums-joined (reads_on {sum = sum} {rest = folded r at why} w g rest) = ap (f.add sum) (sums-joined rest)
    sums-joined (stops {sum = sum} w h) = s.unit_after sum

    -- a walk in parts
    pub walk_in_parts : WalkInParts f Step
    walk_in_parts portions sums i w = sums-joined w ∙ ap sum_in (every_walk portions sums i w)

  -- ---- a walk through any row of buffers

  module _ (Step : Stepping A) (most : ℕ) (can : CanStep f Step most) where
    -- the walk over the portions that are still to come, where what is kept adds nothing
    abbrev Follows : List (List ℕ) → ℕ → List ℕ → Type 0
    Follows later base kept =
        Rests base kept → base + length (kept ++ joined_bytes later) ≤ most
        → (sums : List A) × Walk f Step base kept later sums (fold_of f base (kept ++ joined_bytes later))

    module _ (later : List (List ℕ)) (base : ℕ) (kept portion : List ℕ)
        (low : base + length (kept ++ (portion ++ joined_bytes later)) ≤ most)
        (go : (base : ℕ) (kept : List ℕ) → Follows later base kept) where
      abbrev msg : List ℕ
      msg = kept ++ portion

      abbrev more : List ℕ
      more = joined_bytes later

      abbrev Walks : Type 0
      Walks = (sums : List A) × Walk f Step base kept (portion ∷ later) sums (fold_of f base (kept ++ (portion ++ more)))

      all-long : length (kept ++ (portion ++ more)) ≡ length msg + length more
      all-long = ap length (sym (append_assoc kept portion more)) ∙ length-append msg more

      module _ (sum : A) (used : ℕ) (why : End) (e : fold_of f base msg ≡ folded sum (base + used) why) where
        this-step : Step base msg sum used why
        this-step = can base msg sum used why (omega (arith, all-long)) e

        step-on : MayContinue why → Walks
        step-on g =
            let w = framed-in (here base msg sum used why e) in
            let fits : base + used + length (drop used msg ++ more) ≤ most
            = omega (arith, all-long, length-append (drop used msg) more, length-drop used msg) in
            let r = go (base + used) (drop used msg) (rests base msg sum used why e g) fits in
            let is : with_sum f sum (fold_of f (base + used) (drop used msg ++ more)) ≡ fold_of f base (kept ++ (portion ++ more))
            = sym (in_two base kept portion more ∙ goes_further base msg sum used why e more g) in
            (sum ∷ r.0, subst (Walk f Step base kept (portion ∷ later) (sum ∷ r.0)) is (reads_on this-step g r.1))

      step-ends : (sum : A) (used : ℕ) (k : Refusal) → fold_of f base msg ≡ folded sum (base + used) (end.Refused k) → Walks
      step-ends sum used k e =
          let is : folded sum (base + used) (end.Refused k) ≡ fold_of f base (kept ++ (portion ++ more))
          = sym (in_two base kept portion more ∙ ends-here base msg sum used (end.Refused k) e more (λ g. g)) in (
            sum ∷ [],
            subst (Walk f Step base kept (portion ∷ later) (sum ∷ [])) is
                (stops (this-step sum used (end.Refused k) e) (last later)),
          )
        where
          last : (x : List (List ℕ)) → WalkStops x (end.Refused k)
          last [] = tt
          last (next ∷ x) = λ g. g

      by_end : (sum : A) (used : ℕ) (why : End) → fold_of f base msg ≡ folded sum (base + used) why → Walks
      by_end sum used end.Whole e = step-on sum used end.Whole e tt
      by_end sum used end.Waiting e = step-on sum used end.Waiting e tt
      by_end sum used (end.Refused k) e = step-ends sum used k e

      by-fold : (i : Fold A) → fold_of f base msg ≡ i → Walks
      by-fold (folded sum at why) e =
          let w = framed-in (subst (Framed f base msg) e (framed f s.inside base msg)) in
          let there : at ≡ base + (at - base) = omega arith in
          by_end sum (at - base) why (e ∙ ap (λ (k : ℕ). folded sum k why) there)

    loop : (later : List (List ℕ)) (base : ℕ) (kept : List ℕ) → Follows later base kept
    unfolding joined_bytes
    loop [] base kept is low = ([], subst (Walk f Step base kept [] []) (sym (ap (fold_of f base) (append-nil kept) ∙ is)) done)
    loop (portion ∷ later) base kept is low =
        by-fold later base kept portion low (λ b k i h. loop later b k i h) (fold_of f base (kept ++ portion)) refl

    -- through any row of buffers there is a walk
    pub any_walk : AnyWalk f Step most
    any_walk portions low = loop portions 0 [] (fold-eq f s.inside 0 []) (omega arith)
