-- What a well-formed table is: the records of one tree that obeys document 01's rules, and of no other.
use mathlib.Core.Path.{◌≡◌, refl, ap, ◌∙◌}
use mathlib.Core.List.{List, ◌++◌}
use Prim.Native.Nat.{ℕ, ◌+◌, ◌*◌, ◌≤◌, ◌<◌}
use native.Mathlib.Omega.{arith}
use lib.ListN.{length, get_or, take, length-append}
use lib.Seq.{take_at}
use Rattle.node.specs.Forest.{Forest, nil, node, size}
use Rattle.node.specs.Tags.{bundle_kind}
use Rattle.node.specs.declared.record.Item.{Item}
use Rattle.node.specs.Records.{record_size, most_records, records_of, end_at, item_at}
use Rattle.node.proofs.Recorded.{length-records}
use Rattle.table.specs.Formed.{allowed, WellFormed}
use Rattle.table.specs.Tree.{Spans, Obeys, IsTree, FieldsFit}
use Rattle.table.proofs.Spanned.{spans-size}
use Rattle.table.proofs.Grown.{grow, kept_of}
use Rattle.table.proofs.Held.{spans-records, records-held}

-- a well-formed table has a tree, whose root is the first record; `spans_unique` says that it has no other
pub formed_tree : (t : List ℕ) (count : ℕ) (source : List ℕ) → WellFormed t count source
    → (inside : Forest) × IsTree t count source (item_at t 0) inside
unfolding Spans Obeys allowed
formed_tree t count source w =
    let k = w.nodes 0 w.some in
    let g = grow t count source w.nodes count {lo = 0 + 1} {hi = end_at t 0} (omega (arith, w.whole)) (omega (arith, w.whole))
    k.tiles in (
      g.forest,
      record {
        spans = (refl, g.spans, w.whole);
        obeys = (k.rules, k.range, w.root, g.obeys, tt);
        few = w.few;
        fits = w.fits;
        zeros = λ i h. (w.nodes i h).zeros;
      },
    )

-- a table that has a tree is well formed
pub tree_formed : {t : List ℕ} {count : ℕ} {source : List ℕ} {item : Item} {inside : Forest} → IsTree t count source item inside
    → WellFormed t count source
unfolding Spans Obeys allowed
tree_formed {t} {count} {source} {item} {inside} w =
    let s = w.spans in
    let o = w.obeys in
    record {
      some = omega (arith, spans-size t (0 + 1) (end_at t 0) inside s.1, s.2);
      few = w.few;
      fits = w.fits;
      root = rw (← s.0) at o.2;
      whole = s.2;
      nodes = λ i h.
          let q = kept_of t source bundle_kind 0 count (node item inside nil) s o i (omega arith) h in
          record { zeros = w.zeros i h; rules = q.rules; range = q.range; within = q.within; tiles = q.tiles };
    }

-- the count is the tree's nodes
pub tree-size : {t : List ℕ} {count : ℕ} {source : List ℕ} {item : Item} {inside : Forest} → IsTree t count source item inside
    → size (node item inside nil) ≡ count
tree-size {t} {count} {source} {item} {inside} w = omega (arith, spans-size t 0 count (node item inside nil) w.spans)

-- a tree's table, as far as it counts, is the bytes of the tree's records
pub tree_bytes : {t : List ℕ} {count : ℕ} {source : List ℕ} {item : Item} {inside : Forest} → ((i : ℕ) → get_or t i 0 < 256)
    → IsTree t count source item inside → take (record_size * count) t ≡ records_of 0 (node item inside nil)
tree_bytes {t} {count} {source} {item} {inside} small w =
    let F = node item inside nil in
    let l : length (records_of 0 F) ≡ record_size * count = length-records 0 F ∙ ap (λ (n : ℕ). record_size * n) (tree-size w) in
    ap (take (record_size * count)) (spans-records t small 0 count F w.spans w.fits w.zeros)
    ∙ take_at (records_of 0 F) _ (record_size * count) l

-- a table that begins with the records of a tree that obeys the rules is that tree's
pub bytes-tree : (t more : List ℕ) (source : List ℕ) (item : Item) (inside : Forest) → t ≡ records_of 0 (node item inside nil) ++ more
    → FieldsFit (node item inside nil) → size (node item inside nil) ≤ most_records → Obeys source bundle_kind (node item inside nil)
    → IsTree t (size (node item inside nil)) source item inside
bytes-tree t more source item inside e f few o =
    let F = node item inside nil in
    let h = records-held t more 0 (size F) F f (omega arith) (omega arith) e in
    record {
      spans = h.spans;
      obeys = o;
      few = few;
      fits = omega (arith, ap length e, length-append (records_of 0 F) more, length-records 0 F);
      zeros = λ i l. h.zeros i (omega arith) l;
    }
