-- Law (a): a recording is folded in one go or in two, that of a beginning of the bytes, and that of what was not read and what comes
-- after it. And what was read is a recording of its own.
use mathlib.Core.Path.{◌≡◌, refl, ap, sym, subst, ◌∙◌}
use mathlib.Core.List.{List, [], ◌++◌}
use Prim.Native.Nat.{ℕ, ◌+◌, ◌-◌, ◌<◌, ◌≤◌}
use native.Mathlib.Omega.{arith}
use lib.ListN.{length, take, drop, length-append, length-drop, length-take}
use lib.Seq.{drop-append-le, drop-drop, take-add, drop_at, length-take-le}
use Rattle.results.specs.declared.End.{End}
use Rattle.results.specs.declared.End.TheVariants as end
use Rattle.folding.specs.Folding.{Verdict, takes, Fold, folded, Folding}
use Rattle.folding.specs.Folding.{with_sum, fold_of, Inside, Stays, Alone, Sound, OwnBytes, continued, CutAnywhere, ReadIsWhole}
use Rattle.folding.proofs.Knot.{fold-eq, fold-by}
use Rattle.folding.proofs.Framed.{Framed, ends, lacks, fails, frame, framed, framed-in}

module _ {A : Type 0} (f : Folding A) (s : Sound f) where
  -- the sum of no frame before a fold
  pub sum-none : (i : Fold A) → with_sum f f.unit i ≡ i
  sum-none (folded sum at why) = ap (λ (a : A). folded a at why) (s.unit_before sum)

  -- sums before sums before a fold
  pub sum_twice : (a b : A) (i : Fold A) → with_sum f a (with_sum f b i) ≡ with_sum f (f.add a b) i
  sum_twice a b (folded sum at why) = ap (λ (c : A). folded c at why) (sym (s.grouped a b sum))

  -- a frame stands before what is left of both
  frame-continued : (base u : ℕ) (a : A) (l more : List ℕ) (sum : A) (at : ℕ) (why : End) → base + u ≤ at
      → with_sum f a (continued f (base + u) (drop u l) more (folded sum at why))
      ≡ continued f base l more (folded (f.add a sum) at why)
  frame-continued base u a l more sum at why h = by_end why
    where
      same : u + (at - (base + u)) ≡ at - base
      same = omega arith

      goes_further : with_sum f a (with_sum f sum (fold_of f at (drop (at - (base + u)) (drop u l) ++ more)))
          ≡ with_sum f (f.add a sum) (fold_of f at (drop (at - base) l ++ more))
      goes_further =
          sum_twice a sum (fold_of f at (drop (at - (base + u)) (drop u l) ++ more))
          ∙ ap (λ (m : List ℕ). with_sum f (f.add a sum) (fold_of f at (m ++ more)))
          (drop-drop (at - (base + u)) u l ∙ ap (λ (k : ℕ). drop k l) same)

      by_end : (why : End) → with_sum f a (continued f (base + u) (drop u l) more (folded sum at why))
          ≡ continued f base l more (folded (f.add a sum) at why)
      by_end end.Whole = goes_further
      by_end end.Waiting = goes_further
      by_end (end.Refused k) = refl

  module _ (more : List ℕ) where
    more-some : (l : List ℕ) → 0 < length l → 0 < length (l ++ more)
    more-some l some = omega (arith, length-append l more)

    again : {x : Verdict A} (base : ℕ) (l : List ℕ) → f.judge base l ≡ x → Stays x (f.judge base (l ++ more))
    again base l e = subst (λ (x : Verdict A). Stays x (f.judge base (l ++ more))) e (s.stays base l more)

    cut-framed : {base : ℕ} {l : List ℕ} {i : Fold A} → Framed f base l i → fold_of f base (l ++ more) ≡ continued f base l more i
    cut-framed {base} ends = let none : base - base ≡ 0 = omega arith in rw none (sym (sum-none (fold_of f base more)))
    cut-framed {base} {l} (lacks some e) =
        let none : base - base ≡ 0 = omega arith in rw none (sym (sum-none (fold_of f base (l ++ more))))
    cut-framed {base} {l} (fails some e) = fold-by f s.inside base (l ++ more) (more-some l some) (again base l e)
    cut-framed {base} {l} (frame {u = u} {at = at} {a = a} {sum = sum} {why = why} some e h r) =
        fold-by f s.inside base (l ++ more) (more-some l some) (again base l e)
        ∙ ap (λ (m : List ℕ). with_sum f a (fold_of f (base + u) m)) (drop-append-le u l more h.1)
        ∙ ap (with_sum f a) (cut-framed r)
        ∙ frame-continued base u a l more sum at why (framed-in r).0

  -- law (a)
  pub cut_anywhere : CutAnywhere f
  cut_anywhere base l more = cut-framed more (framed f s.inside base l)

-- ---- what was read

module _ {A : Type 0} (f : Folding A) (s : Sound f) (own-bytes : OwnBytes f) where
  module _ {base u at : ℕ} {a : A} {l : List ℕ} (e : f.judge base l ≡ takes u a)
      (h : Inside {A = A} (length l) (takes u a)) (low : base + u ≤ at) (high : at ≤ base + length l) where
    split : take (at - base) l ≡ take u l ++ take (at - (base + u)) (drop u l)
    split =
        let same : at - base ≡ u + (at - (base + u)) = omega arith in
        ap (λ (k : ℕ). take k l) same ∙ take-add u (at - (base + u)) l

    judged-front : f.judge base (take (at - base) l) ≡ takes u a
    judged-front =
        let own : f.judge base (take u l) ≡ takes u a = subst (Alone f.judge base l) e (own-bytes base l) in
        ap (f.judge base) split
        ∙ subst (λ (x : Verdict A). Stays x (f.judge base (take u l ++ take (at - (base + u)) (drop u l)))) own
        (s.stays base (take u l) (take (at - (base + u)) (drop u l)))

    rest-front : drop u (take (at - base) l) ≡ take (at - (base + u)) (drop u l)
    rest-front = ap (drop u) split ∙ drop_at (take u l) (take (at - (base + u)) (drop u l)) u (length-take-le u l h.1)

  read-framed : {base at : ℕ} {l : List ℕ} {sum : A} {why : End} → Framed f base l (folded sum at why)
      → fold_of f base (take (at - base) l) ≡ folded sum at end.Whole
  read-framed {base} ends = let none : base - base ≡ 0 = omega arith in rw none (fold-eq f s.inside base [])
  read-framed {base} (lacks some e) = let none : base - base ≡ 0 = omega arith in rw none (fold-eq f s.inside base [])
  read-framed {base} (fails some e) = let none : base - base ≡ 0 = omega arith in rw none (fold-eq f s.inside base [])
  read-framed {base} {at} {l} (frame {u = u} {a = a} some e h r) =
      let w = framed-in r in
      let high : at ≤ base + length l = omega (arith, length-drop u l) in
      let long : 0 < length (take (at - base) l) = omega (arith, length-take (at - base) l) in
      fold-by f s.inside base (take (at - base) l) long (judged-front e h w.0 high)
      ∙ ap (λ (m : List ℕ). with_sum f a (fold_of f (base + u) m)) (rest-front e h w.0 high)
      ∙ ap (with_sum f a) (read-framed r)

  -- what was read is a recording of its own
  pub read-is-whole : ReadIsWhole f
  read-is-whole base l sum at why e = read-framed (subst (Framed f base l) e (framed f s.inside base l))
