-- From the records' rules to a tree that obeys them, and back.
use mathlib.Core.Path.{◌≡◌, refl}
use mathlib.Core.Bool.{true}
use mathlib.Core.Logic.{⊎_elim}
use mathlib.Core.List.{List}
use Prim.Native.Nat.{ℕ, zero, suc, ◌+◌, ◌-◌, ◌≤◌, ◌<◌}
use native.Mathlib.Nat.{eq-or-lt_of_le}
use native.Mathlib.Omega.{arith}
use Rattle.wire.proofs.Choices.{lt-or-le}
use Rattle.node.specs.Forest.{Forest, nil, node}
use Rattle.node.specs.Records.{kind_at, end_at, item_at}
use Rattle.node.specs.Rules.{own_rules}
use Rattle.table.specs.Formed.{range_ok, allowed, Tiles, done, step, NodeOk}
use Rattle.table.specs.Tree.{Spans, Obeys}
use Rattle.table.proofs.Spanned.{spans-size}

-- tiles run forward
pub tiles-le : {t : List ℕ} {container lo hi : ℕ} → Tiles t container lo hi → lo ≤ hi
tiles-le done = omega arith
tiles-le (step lt may on r) = omega arith

-- ---- from the records' rules to a forest

-- a forest that stands at lo to hi in a container
pub record Grown (t source : List ℕ) (container lo hi : ℕ) : Type 0 where
  pub forest : Forest
  pub spans : Spans t lo hi forest
  pub obeys : Obeys source container forest

grown-nil : (t source : List ℕ) (container lo : ℕ) → Grown t source container lo lo
unfolding Spans Obeys
grown-nil t source container lo = record { forest = nil; spans = refl; obeys = tt }

grown-node : (t source : List ℕ) (container lo hi : ℕ) → own_rules (item_at t lo) ≡ true
    → range_ok source (item_at t lo) ≡ true → allowed container (kind_at t lo) ≡ true
    → Grown t source (kind_at t lo) (lo + 1) (end_at t lo) → Grown t source container (end_at t lo) hi → Grown t source container lo hi
unfolding Spans Obeys
grown-node t source container lo hi rules range may i r =
    record {
      forest = node (item_at t lo) i.forest r.forest;
      spans = (refl, i.spans, r.spans);
      obeys = (rules, range, may, i.obeys, r.obeys);
    }

module _ (t : List ℕ) (count : ℕ) (source : List ℕ) where
  -- the forest of a row of records that obey the rules; fuel bounds the records that are left
  pub grow : ((i : ℕ) → i < count → NodeOk t count source i) → (fuel : ℕ) {container lo hi : ℕ} → hi - lo ≤ fuel → hi ≤ count
      → Tiles t container lo hi → Grown t source container lo hi
  grow ok zero h le done = grown-nil t source _ _
  grow ok zero h le (step lt may on r) = absurd (omega arith)
  grow ok (suc fuel) h le done = grown-nil t source _ _
  grow ok (suc fuel) {container} {lo} {hi} h le (step lt may on r) =
      let k = ok lo (omega arith) in
      let e : end_at t lo ≤ hi = tiles-le r in
      grown-node t source container lo hi k.rules k.range may
      (grow ok fuel (omega arith) (omega arith) k.tiles)
      (grow ok fuel (omega arith) le r)

-- ---- and back

tiles-of : (t source : List ℕ) (container lo hi : ℕ) (F : Forest) → Spans t lo hi F → Obeys source container F → Tiles t container lo hi
unfolding Spans Obeys
tiles-of t source container lo hi nil s o = rw s done
tiles-of t source container lo hi (node item inside rest) s o =
    let i = spans-size t (lo + 1) (end_at t lo) inside s.1 in
    let r = spans-size t (end_at t lo) hi rest s.2 in
    step {i = lo} {j = hi} (omega arith) (rw (← s.0) at o.2) (omega arith)
    (tiles-of t source container (end_at t lo) hi rest s.2 o.4)

-- what each record of a row keeps
pub record Kept (t source : List ℕ) (hi i : ℕ) : Type 0 where
  pub rules : own_rules (item_at t i) ≡ true
  pub range : range_ok source (item_at t i) ≡ true
  pub within : end_at t i ≤ hi
  pub tiles : Tiles t (kind_at t i) (i + 1) (end_at t i)

kept-up : {t source : List ℕ} {e hi i : ℕ} → e ≤ hi → Kept t source e i → Kept t source hi i
kept-up h k = record { rules = k.rules; range = k.range; within = omega (arith, k.within); tiles = k.tiles }

-- each record of a row that obeys the rules keeps them
pub kept_of : (t source : List ℕ) (container lo hi : ℕ) (F : Forest) → Spans t lo hi F → Obeys source container F
    → (i : ℕ) → lo ≤ i → i < hi → Kept t source hi i
unfolding Spans Obeys
kept_of t source container lo hi nil s o i l h = absurd (omega (arith, s))
kept_of t source container lo hi (node item inside rest) s o i l h =
    let x = spans-size t (lo + 1) (end_at t lo) inside s.1 in
    let y = spans-size t (end_at t lo) hi rest s.2 in
    let first : Kept t source hi lo
    = record {
      rules = rw (← s.0) at o.0;
      range = rw (← s.0) at o.1;
      within = omega arith;
      tiles = rw (← s.0) at (tiles-of t source item.kind (lo + 1) (end_at t lo) inside s.1 o.3);
    } in
    let deep = kept_of t source item.kind (lo + 1) (end_at t lo) inside s.1 o.3 i in
    let later = kept_of t source container (end_at t lo) hi rest s.2 o.4 i in
    ⊎_elim
    (λ e. rw (← e) first)
    (λ g. ⊎_elim (λ q. kept-up (omega arith) (deep (omega arith) q)) (λ q. later q h) (lt-or-le i (end_at t lo)))
    (eq-or-lt_of_le l)
