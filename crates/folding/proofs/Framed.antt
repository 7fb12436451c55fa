-- A fold frame by frame: a relation between the bytes of a recording and their fold, for induction.
use mathlib.Core.Path.{◌≡◌, refl, ap, sym, subst, ◌∙◌}
use mathlib.Core.List.{List, [], ◌∷◌}
use Prim.Native.Nat.{ℕ, zero, suc, ◌+◌, ◌-◌, ◌<◌, ◌≤◌}
use native.Mathlib.Omega.{arith}
use lib.ListN.{length, drop, length-drop}
use lib.Seq.{drop-drop}
use Rattle.refusal.specs.declared.Refusal.{Refusal}
use Rattle.results.specs.declared.End.{End}
use Rattle.results.specs.declared.End.TheVariants as end
use Rattle.folding.specs.Folding.{Verdict, takes, waits, refuses, Fold, folded, Folding}
use Rattle.folding.specs.Folding.{with_sum, fold_of, Inside}
use Rattle.folding.proofs.Knot.{fold-eq, fold-by}

-- the fold of l, which stands at offset `base`: nothing, or a frame that is not accepted, or a frame and the fold after it
pub data Framed {A : Type 0} (f : Folding A) : ℕ → List ℕ → Fold A → Type 0 where
  ends : {base : ℕ} → Framed f base [] (folded f.unit base end.Whole)
  lacks : {base : ℕ} {l : List ℕ} → 0 < length l → f.judge base l ≡ waits → Framed f base l (folded f.unit base end.Waiting)
  fails : {base : ℕ} {l : List ℕ} {why : Refusal} → 0 < length l → f.judge base l ≡ refuses why
      → Framed f base l (folded f.unit base (end.Refused why))
  frame : {base u at : ℕ} {a sum : A} {l : List ℕ} {why : End} → 0 < length l → f.judge base l ≡ takes u a
      → Inside {A = A} (length l) (takes u a) → Framed f (base + u) (drop u l) (folded sum at why)
      → Framed f base l (folded (f.add a sum) at why)

module _ {A : Type 0} (f : Folding A) (inside : (base : ℕ) (l : List ℕ) → Inside (length l) (f.judge base l)) where
  module _ (base : ℕ) (l : List ℕ) (some : 0 < length l) where
    frame-before : (u : ℕ) (a : A) (i : Fold A) → f.judge base l ≡ takes u a → Inside {A = A} (length l) (takes u a)
        → Framed f (base + u) (drop u l) i → Framed f base l (with_sum f a i)
    frame-before u a (folded sum at why) e h r = frame some e h r

    by_front : (x : Verdict A) → f.judge base l ≡ x → Inside (length l) x
        → ((u : ℕ) → 0 < u → Framed f (base + u) (drop u l) (fold_of f (base + u) (drop u l))) → Framed f base l (fold_of f base l)
    by_front (takes u a) e h go =
        subst (Framed f base l) (sym (fold-by f inside base l some e)) (frame-before u a (fold_of f (base + u) (drop u l)) e h (go u h.0))
    by_front waits e h go = subst (Framed f base l) (sym (fold-by f inside base l some e)) (lacks some e)
    by_front (refuses why) e h go = subst (Framed f base l) (sym (fold-by f inside base l some e)) (fails some e)

  framed_at : (n base : ℕ) (l : List ℕ) → length l < n → Framed f base l (fold_of f base l)
  framed_at zero base l h = absurd (omega arith)
  framed_at (suc n) base [] h = subst (Framed f base []) (sym (fold-eq f inside base [])) ends
  framed_at (suc n) base (x ∷ l) h =
      by_front base (x ∷ l) (omega arith) (f.judge base (x ∷ l)) refl (inside base (x ∷ l))
      (λ u low. framed_at n (base + u) (drop u (x ∷ l)) (omega (arith, length-drop u (x ∷ l))))

  -- every fold is one of these
  pub framed : (base : ℕ) (l : List ℕ) → Framed f base l (fold_of f base l)
  framed base l = framed_at (suc (length l)) base l (omega arith)

  -- and each of these is a fold
  pub framed_is : {base : ℕ} {l : List ℕ} {i : Fold A} → Framed f base l i → fold_of f base l ≡ i
  framed_is {base} ends = fold-eq f inside base []
  framed_is {base} {l} (lacks some e) = fold-by f inside base l some e
  framed_is {base} {l} (fails some e) = fold-by f inside base l some e
  framed_is {base} {l} (frame {a = a} some e h r) = fold-by f inside base l some e ∙ ap (with_sum f a) (framed_is r)

module _ {A : Type 0} {f : Folding A} where
  -- a fold stops in its bytes or at their end
  pub framed-in : {base at : ℕ} {l : List ℕ} {sum : A} {why : End} → Framed f base l (folded sum at why)
      → (base ≤ at) × (at ≤ base + length l)
  framed-in {base} ends = (omega arith, omega arith)
  framed-in {base} (lacks some e) = (omega arith, omega arith)
  framed-in {base} (fails some e) = (omega arith, omega arith)
  framed-in {base} {at} {l} (frame {u = u} some e h r) =
      let w = framed-in r in
      let n = length-drop u l in
      (omega arith, omega arith)

  -- what is left there adds nothing, and stops for the same reason
  pub framed-rest : {base at : ℕ} {l : List ℕ} {sum : A} {why : End} → Framed f base l (folded sum at why)
      → Framed f at (drop (at - base) l) (folded f.unit at why)
  framed-rest {base} ends = let none : base - base ≡ 0 = omega arith in rw none ends
  framed-rest {base} {l = l} (lacks some e) = let none : base - base ≡ 0 = omega arith in rw none (lacks some e)
  framed-rest {base} {l = l} (fails some e) = let none : base - base ≡ 0 = omega arith in rw none (fails some e)
  framed-rest {base} {at} {l} {why = why} (frame {u = u} some e h r) =
      let w = framed-in r in
      let same : u + (at - (base + u)) ≡ at - base = omega arith in
      subst (λ (m : List ℕ). Framed f at m (folded f.unit at why)) (drop-drop (at - (base + u)) u l ∙ ap (λ (k : ℕ). drop k l) same)
      (framed-rest r)

  -- a whole fold stops at the end of its bytes
  pub framed-all : {base at : ℕ} {l : List ℕ} {sum : A} → Framed f base l (folded sum at end.Whole) → at ≡ base + length l
  framed-all ends = omega arith
  framed-all {base} {at} {l} (frame {u = u} some e h r) = omega (arith, framed-all r, length-drop u l)
