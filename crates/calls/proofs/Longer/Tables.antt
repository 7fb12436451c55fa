-- A tree that continues another, on the table: record 0 keeps its kind and fields, and the records after it begin with the same
-- ones.
use mathlib.Core.Path.{◌≡◌, refl, ap, sym, ◌∙◌}
use mathlib.Core.List.{List, ◌++◌, append_assoc, append-nil}
use Prim.Native.Nat.{ℕ, ◌+◌, ◌-◌, ◌*◌}
use native.Mathlib.Omega.{arith}
use lib.ListN.{length, take, drop}
use lib.Seq.{take_at, drop_at}
use Rattle.wire.specs.Number.{number, bytes}
use Rattle.node.specs.Forest.{Forest, nil, node, size}
use Rattle.node.specs.Records.{record_size, record_of, records_of, kind_at, field_at}
use Rattle.node.specs.Tags.{message_kind}
use Rattle.node.specs.declared.record.Item.{Item}
use Rattle.calls.specs.Words.{BeginsSame, none, also, Continues, message, bundle}
use Rattle.calls.specs.Demands.{TableContinues}
use Rattle.node.proofs.Recorded.{length-record, length-records}

begins-all : (f : Forest) → BeginsSame f f
begins-all nil = none
begins-all (node item inside rest) = also (begins-all rest)

-- a row begins with the records of another: so many bytes of it are those records
pub begins-records : {f g : Forest} (i : ℕ) (x : List ℕ) → BeginsSame f g → (y : List ℕ) × (records_of i g ++ x ≡ records_of i f ++ y)
unfolding records_of
begins-records {f} {g} i x none = (records_of i g ++ x, refl)
begins-records i x (also {item = item} {inside = inside} w) =
    let r = begins-records (i + 1 + size inside) x w in
    (r.0, simp append_assoc (ap (λ (l : List ℕ). record_of item (i + 1 + size inside) ++ (records_of (i + 1) inside ++ l)) r.1))

-- what stands after record 0
after-root : (item : Item) (f : Forest) (x : List ℕ) → drop record_size (records_of 0 (node item f nil) ++ x) ≡ records_of 1 f ++ x
unfolding records_of
after-root item f x =
    ap (drop record_size) (append_assoc (record_of item (0 + 1 + size f)) _ x)
    ∙ drop_at (record_of item (0 + 1 + size f)) _ record_size (length-record item (0 + 1 + size f))
    ∙ rw append-nil

root-rest : (item : Item) {f g : Forest} (x y : List ℕ) (n : ℕ) → n ≡ record_size * size f → BeginsSame f g
    → take n (drop record_size (records_of 0 (node item g nil) ++ y)) ≡ take n (drop record_size (records_of 0 (node item f nil) ++ x))
root-rest item {f} {g} x y n e w =
    let r = begins-records 1 y w in
    let l : length (records_of 1 f) ≡ n = length-records 1 f ∙ sym e in
    rw (after-root item f x, after-root item g y, r.1) (take_at (records_of 1 f) r.0 n l ∙ sym (take_at (records_of 1 f) x n l))

root-continues : (item : Item) {f g : Forest} (x y : List ℕ) → BeginsSame f g
    → TableContinues (records_of 0 (node item f nil) ++ x) (records_of 0 (node item g nil) ++ y) (size (node item f nil))
unfolding size records_of record_of bytes number kind_at field_at
root-continues item {f} x y w =
    record {
      item = refl;
      rest = root-rest item x y
          (record_size * size (node item f nil) - record_size) (omega arith) w;
    }

-- the records of a tree that goes on: record 0 keeps its numbers, and the others begin with the same ones
pub table-continues : {f g : Forest} (x y : List ℕ) → Continues f g → TableContinues (records_of 0 f ++ x) (records_of 0 g ++ y) (size f)
table-continues x y (message {item = item} {inside = inside} k) = root-continues item x y (begins-all inside)
table-continues x y (bundle {item = item} k w) = root-continues item x y w

-- a message is the same tree
pub same-message : {f g : Forest} (x : List ℕ) → Continues f g → kind_at (records_of 0 f ++ x) 0 ≡ message_kind → g ≡ f
unfolding records_of record_of kind_at
same-message x (message k) e = refl
same-message x (bundle k w) e = absurd (omega (arith, k))
