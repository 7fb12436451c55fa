-- From trees to tables: the fields of a table of bytes fit, and tables of the same tree hold the same.
use mathlib.Core.Path.{◌≡◌, sym, ap, ◌∙◌}
use mathlib.Core.Logic.{⊎_elim}
use mathlib.Core.List.{List}
use Prim.Native.Nat.{ℕ, ◌+◌, ◌≤◌, ◌<◌}
use native.Mathlib.Nat.{eq-or-lt_of_le}
use native.Mathlib.Omega.{arith}
use lib.ListN.{drop}
use Rattle.node.specs.Forest.{Forest, nil, node}
use Rattle.node.specs.Records.{record_start, field_at, end_at, item_at}
use Rattle.table.specs.Tree.{Spans, FieldsFit}
use Rattle.osc10.specs.Words.{Bytes}
use Rattle.standards.specs.Trip.{SameItem, Same, both, SameTable}
use Rattle.standards.specs.Trip as trip
use Rattle.wire.proofs.Choices.{lt-or-le}
use Rattle.wire.proofs.Numbers.{number_small}
use Rattle.table.proofs.Spanned.{spans-size}
use Rattle.wire.proofs.Parts.{drop-small}
use Rattle.standards.proofs.Osc10.Trees.{same_size}

-- the numbers of a record of bytes fit
pub spans_fit : (t : List ℕ) → Bytes t → (lo hi : ℕ) (F : Forest) → Spans t lo hi F → FieldsFit F
unfolding Spans FieldsFit field_at
spans_fit t small lo hi nil s = tt
spans_fit t small lo hi (node item inside rest) s =
    let fit : (n : ℕ) → _ = λ n. number_small 4 (drop n t) (drop-small n t small) in (
      rw (← s.0) (fit (record_start lo + 8)),
      rw (← s.0) (fit (record_start lo + 12)),
      rw (← s.0) (fit (record_start lo + 16)),
      spans_fit t small (lo + 1) (end_at t lo) inside s.1,
      spans_fit t small (end_at t lo) hi rest s.2,
    )

-- record i of two tables holds the same
record SameRecord (s t s' t' : List ℕ) (i : ℕ) : Type 0 where
  item : SameItem s s' (item_at t i) (item_at t' i)
  ends : end_at t i ≡ end_at t' i

module _ {s s' : List ℕ} (t t' : List ℕ) where
  same-records : (lo hi : ℕ) {F F' : Forest} → Same s s' F F' → Spans t lo hi F → Spans t' lo hi F' → (i : ℕ) → lo ≤ i → i < hi
      → SameRecord s t s' t' i
  unfolding Spans
  same-records lo hi trip.Same.none x y i l h = absurd (omega (arith, x))
  same-records lo hi (both {f = f} {f' = f'} e u v) x y i l h =
      let q : end_at t lo ≡ end_at t' lo = sym (spans-size t (lo + 1) (end_at t lo) f x.1) ∙ ap (λ (n : ℕ). lo + 1 + n) (same_size u)
      ∙ spans-size t' (lo + 1) (end_at t' lo) f' y.1 in
      let here : SameRecord s t s' t' lo = record { item = rw (x.0, y.0) e; ends = q } in
      let deep = same-records (lo + 1) (end_at t lo) u x.1 (rw (← q) at y.1) i in
      let later = same-records (end_at t lo) hi v x.2 (rw (← q) at y.2) i in
      ⊎_elim
      (λ d. rw (← d) here)
      (λ g. ⊎_elim (λ d. deep (omega arith) d) (λ d. later d h) (lt-or-le i (end_at t lo)))
      (eq-or-lt_of_le l)

  -- two tables whose trees are the same hold the same, record by record
  pub same-table : (count : ℕ) {F F' : Forest} → Same s s' F F' → Spans t 0 count F → Spans t' 0 count F' → SameTable s t s' t' count
  same-table count w x y =
      let at : (i : ℕ) → i < count → SameRecord s t s' t' i = λ i h. same-records 0 count w x y i (omega arith) h in
      record { items = λ i h. (at i h).item; ends = λ i h. (at i h).ends }
