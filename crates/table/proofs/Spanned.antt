-- The forest that spans a row of records: its size, its first node, and that there is no other.
use mathlib.Core.Path.{◌≡◌, refl}
use mathlib.Core.Bool.{true}
use mathlib.Core.List.{List}
use Prim.Native.Nat.{ℕ, ◌+◌, ◌≤◌, ◌<◌}
use native.Mathlib.Omega.{arith}
use Rattle.node.specs.Forest.{Forest, nil, node, size}
use Rattle.node.specs.Records.{end_at, item_at}
use Rattle.node.specs.Rules.{own_rules}
use Rattle.node.specs.declared.record.Item.{Item}
use Rattle.table.specs.Formed.{range_ok, allowed}
use Rattle.table.specs.Tree.{Spans, Obeys}

-- a row has as many records as its forest has nodes
pub spans-size : (t : List ℕ) (lo hi : ℕ) (F : Forest) → Spans t lo hi F → lo + size F ≡ hi
unfolding Spans size
spans-size t lo hi nil s = omega (arith, s)
spans-size t lo hi (node item inside rest) s =
    omega (arith, spans-size t (lo + 1) (end_at t lo) inside s.1, spans-size t (end_at t lo) hi rest s.2)

-- the first node of a row, what it contains, and what stands after it
pub record Cut (t : List ℕ) (lo hi : ℕ) (F : Forest) : Type 0 where
  pub inside : Forest
  pub rest : Forest
  pub is : F ≡ node (item_at t lo) inside rest
  pub in-spans : Spans t (lo + 1) (end_at t lo) inside
  pub rest-spans : Spans t (end_at t lo) hi rest
  pub ends : lo + 1 + size inside ≡ end_at t lo
  pub on : lo < end_at t lo
  pub within : end_at t lo ≤ hi

cut-node : (t : List ℕ) (lo hi : ℕ) (item : Item) (inside rest : Forest) → Spans t lo hi (node item inside rest)
    → Cut t lo hi (node item inside rest)
unfolding Spans
cut-node t lo hi item inside rest s =
    let i : lo + 1 + size inside ≡ end_at t lo = spans-size t (lo + 1) (end_at t lo) inside s.1 in
    record {
      inside = inside;
      rest = rest;
      is = rw (← s.0);
      in-spans = s.1;
      rest-spans = s.2;
      ends = i;
      on = omega arith;
      within = omega (arith, spans-size t (end_at t lo) hi rest s.2);
    }

-- a row that is not empty has a first node
pub cut : (t : List ℕ) (lo hi : ℕ) (F : Forest) → lo < hi → Spans t lo hi F → Cut t lo hi F
unfolding Spans
cut t lo hi nil h s = absurd (omega (arith, s))
cut t lo hi (node item inside rest) h s = cut-node t lo hi item inside rest s

-- an empty row has no node
pub no_more : (t : List ℕ) (lo hi : ℕ) (F : Forest) → hi ≤ lo → Spans t lo hi F → F ≡ nil
unfolding Spans size
no_more t lo hi nil h s = refl
no_more t lo hi (node item inside rest) h s =
    absurd (omega (arith, spans-size t (lo + 1) (end_at t lo) inside s.1, spans-size t (end_at t lo) hi rest s.2))

-- a row is one forest's alone
pub spans_unique : (t : List ℕ) (lo hi : ℕ) (F G : Forest) → Spans t lo hi F → Spans t lo hi G → F ≡ G
unfolding Spans
spans_unique t lo hi nil G x y = let e : G ≡ nil = no_more t lo hi G (omega (arith, x)) y in rw e
spans_unique t lo hi (node item inside rest) nil x y =
    absurd (omega (arith, y, (cut-node t lo hi item inside rest x).on, (cut-node t lo hi item inside rest x).within))
spans_unique t lo hi (node item inside rest) (node item' inside' rest') x y =
    let i = spans_unique t (lo + 1) (end_at t lo) inside inside' x.1 y.1 in
    let r = spans_unique t (end_at t lo) hi rest rest' x.2 y.2 in
    rw (← x.0, ← y.0, i, r)

-- what the first node of a forest obeys, and the parts of the forest
pub record Parts (source : List ℕ) (container : ℕ) (item : Item) (inside rest : Forest) : Type 0 where
  pub rules : own_rules item ≡ true
  pub range : range_ok source item ≡ true
  pub may : allowed container item.kind ≡ true
  pub in-obeys : Obeys source item.kind inside
  pub rest-obeys : Obeys source container rest

-- what a forest obeys, taken apart at its first node
pub parts : (source : List ℕ) (container : ℕ) (item : Item) (inside rest : Forest) → Obeys source container (node item inside rest)
    → Parts source container item inside rest
unfolding Obeys
parts source container item inside rest o = record { rules = o.0; range = o.1; may = o.2; in-obeys = o.3; rest-obeys = o.4 }

-- the same for the first record of a row
pub cut_parts : {t : List ℕ} {lo hi : ℕ} {F : Forest} (u : Cut t lo hi F) (source : List ℕ) (container : ℕ) → Obeys source container F
    → Parts source container (item_at t lo) u.inside u.rest
cut_parts {t} {lo} u source container o = parts source container _ u.inside u.rest (rw u.is at o)
