-- The records of trees side by side, and of trees that stand further on.
use mathlib.Core.Path.{◌≡◌, ap, sym, ◌∙◌}
use mathlib.Core.Logic.{⊎_elim}
use mathlib.Core.List.{List}
use Prim.Native.Nat.{ℕ, ◌+◌, ◌≤◌, ◌<◌}
use native.Mathlib.Nat.{eq-or-lt_of_le}
use native.Mathlib.Omega.{arith}
use Rattle.wire.proofs.Choices.{lt-or-le}
use Rattle.node.specs.Forest.{Forest, nil, node, size}
use Rattle.node.specs.Records.{end_at, item_at}
use Rattle.table.specs.Tree.{Spans}
use Rattle.table.proofs.Spanned.{spans-size}
use Rattle.osc10.proofs.Arguments.{join}
use Rattle.cutting.specs.Moved.{moved_item, moved_forest, MovedRecords}
use Rattle.cutting.proofs.Shift.{size-moved}

-- ---- side by side

-- trees side by side have the nodes of both
pub size-joined : (f g : Forest) → size (join f g) ≡ size f + size g
unfolding join size
size-joined nil g = omega arith
size-joined (node item inside rest) g = omega (arith, size-joined rest g)

-- a row of records of both is a row of the first's, and then a row of the second's
pub spans-joined : (t : List ℕ) (lo hi : ℕ) (f g : Forest) → Spans t lo hi (join f g)
    → Spans t lo (lo + size f) f × Spans t (lo + size f) hi g
unfolding join Spans size
spans-joined t lo hi nil g s = let e : lo + 0 ≡ lo = omega arith in (omega arith, rw e s)
spans-joined t lo hi (node item inside rest) g s =
    let r = spans-joined t (end_at t lo) hi rest g s.2 in
    let e : lo + (1 + size inside + size rest) ≡ end_at t lo + size rest
    = omega (arith, spans-size t (lo + 1) (end_at t lo) inside s.1) in
    ((s.0, s.1, rw e r.0), rw e r.1)

-- ---- further on

module _ (k count : ℕ) (t t' : List ℕ) where
  -- record i of t stands in t' `count` records later, k bytes further on
  record MovedAt (i : ℕ) : Type 0 where
    item : item_at t' (count + i) ≡ moved_item k (item_at t i)
    end : end_at t' (count + i) ≡ count + end_at t i

  each-moved : (lo hi lo' hi' : ℕ) (f : Forest) → Spans t lo hi f → Spans t' lo' hi' (moved_forest k f) → lo' ≡ count + lo → (i : ℕ)
      → lo ≤ i → i < hi → MovedAt i
  unfolding Spans moved_forest
  each-moved lo hi lo' hi' nil s s' e i l h = absurd (omega (arith, s))
  each-moved lo hi lo' hi' (node item inside rest) s s' e i l h =
      let x = spans-size t (lo + 1) (end_at t lo) inside s.1 in
      let x' = spans-size t' (lo' + 1) (end_at t' lo') (moved_forest k inside) s'.1 in
      let ends : end_at t' lo' ≡ count + end_at t lo = omega (arith, size-moved k inside) in
      let here : MovedAt lo = record { item = ap (item_at t') (sym e) ∙ s'.0 ∙ ap (moved_item k) (sym s.0); end = rw (← e) ends } in
      ⊎_elim
      (λ d. rw (← d) here)
      (λ g. ⊎_elim
      (λ d. each-moved (lo + 1) (end_at t lo) (lo' + 1) (end_at t' lo') inside s.1 s'.1 (omega arith) i (omega arith) d)
      (λ d. each-moved (end_at t lo) hi (end_at t' lo') hi' rest s.2 s'.2 ends i d h)
      (lt-or-le i (end_at t lo)))
      (eq-or-lt_of_le l)

-- where trees and the same trees k bytes further on stand in two tables, the records of the second are those of the first moved
pub spans-moved : (k count n : ℕ) (t t' : List ℕ) (g : Forest) → Spans t 0 n g → Spans t' count (count + n) (moved_forest k g)
    → MovedRecords k count n t t'
spans-moved k count n t t' g s s' =
    let each : (i : ℕ) → i < n → MovedAt k count t t' i
    = λ i h. each-moved k count t t' 0 n count (count + n) g s s' (omega arith) i (omega arith) h in
    record { items = λ i h. (each i h).item; ends = λ i h. (each i h).end }
