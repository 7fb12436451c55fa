-- A table in which a forest's records stand from the first byte on, or after the first c records.
use mathlib.Core.Path.{◌≡◌, refl, ap, ◌∙◌}
use mathlib.Core.List.{List, ◌++◌, append_assoc, append-nil}
use Prim.Native.Nat.{ℕ, ◌+◌, ◌-◌, ◌*◌, ◌≤◌}
use native.Mathlib.Omega.{arith}
use lib.ListN.{length, take, drop, length-append, length-take, length-drop, take-append-drop}
use lib.Seq.{take_at, drop_at, drop-drop, length-take-le}
use borrow.Rule.Slice.PartMut.{mid_of, put_mid}
use Rattle.wire.specs.Wrote.{Wrote}
use Rattle.wire.proofs.Parts.{lent, given_back}
use Rattle.node.specs.Forest.{Forest, nil, node, size}
use Rattle.node.specs.Records.{record_size, record_of, records_of, stored}
use Rattle.node.specs.declared.record.Item.{Item}
use Rattle.node.proofs.Recorded.{length-record, length-records}

-- what a writer of a forest's records leaves
pub wrote-stored : (i : ℕ) (f : Forest) {T T' : List ℕ} → Wrote (records_of i f) T T' → T' ≡ stored i f T
unfolding stored
wrote-stored i f {T} w = w.left ∙ ap (λ (k : ℕ). records_of i f ++ drop k T) (length-records i f)

length-stored : (i : ℕ) (f : Forest) (T : List ℕ) → record_size * size f ≤ length T → length (stored i f T) ≡ length T
unfolding stored
length-stored i f T h = simp (length-append, length-records, length-drop) (omega arith)

-- no records leave a table as it is
pub stored-nil : (i : ℕ) (T : List ℕ) → stored i nil T ≡ T
unfolding stored records_of size
stored-nil i T = refl

-- the records of one node: its own, and those of what it contains
pub node-records : (i : ℕ) (item : Item) (f : Forest)
    → record_of item (i + 1 + size f) ++ records_of (i + 1) f ≡ records_of i (node item f nil)
unfolding records_of
node-records i item f = rw (append-nil (records_of (i + 1) f))

-- the first c records of T, then those of f from index j on, then T again
abbrev pub completed : List ℕ → ℕ → ℕ → Forest → List ℕ
completed T c j f = take (record_size * c) T ++ stored j f (drop (record_size * c) T)

-- a completed table is as long as before
pub length-completed : (T : List ℕ) (c j : ℕ) (f : Forest) → record_size * (c + size f) ≤ length T → length (completed T c j f) ≡ length T
length-completed T c j f h =
    simp (length-append, length-take)
    (omega (
      arith,
      length-drop (record_size * c) T,
      length-stored j f (drop (record_size * c) T)
          (omega (arith, length-drop (record_size * c) T)),
    ))

-- with no records left to write, it is the table itself
pub completed-nil : (T : List ℕ) (c j : ℕ) → completed T c j nil ≡ T
completed-nil T c j = rw (stored-nil j (drop (record_size * c) T)) (take-append-drop (record_size * c) T)

-- the later part was lent and came back with f's records over its first bytes
pub lent-stored : {Y : List ℕ} (T : List ℕ) (c j : ℕ) (f : Forest) → Y ≡ stored j f (mid_of (record_size * c) (length T - record_size * c) T)
    → put_mid (record_size * c) (length T - record_size * c) T Y ≡ completed T c j f
lent-stored {Y} T c j f e =
    given_back T Y (record_size * c) ∙ ap (λ (l : List ℕ). take (record_size * c) T ++ l) (e ∙ ap (stored j f) (lent T (record_size * c)))

records-split : (i : ℕ) (item : Item) (f g : Forest)
    → records_of i (node item f g) ≡ records_of i (node item f nil) ++ records_of (i + (1 + size f)) g
unfolding records_of
records-split i item f g =
    let e : i + 1 + size f ≡ i + (1 + size f) = omega arith in
    rw (append-nil (records_of (i + 1) f), append_assoc, e)

glue : (A B G D : List ℕ) (x y z : ℕ) → length A ≡ x → length B ≡ y
    → take (x + y) (A ++ (B ++ drop y D)) ++ (G ++ drop z (drop (x + y) (A ++ (B ++ drop y D)))) ≡ A ++ ((B ++ G) ++ drop (y + z) D)
glue A B G D x y z ha hb =
    let len : length (A ++ B) ≡ x + y = length-append A B ∙ omega arith in
    rw (
      ← append_assoc A B (drop y D),
      take_at (A ++ B) (drop y D) (x + y) len,
      drop_at (A ++ B) (drop y D) (x + y) len,
      drop-drop z y D,
      append_assoc A B,
      append_assoc B G,
    )

-- a node of n records was written: what is left to do is what stands after it
pub completed-turn : {T' : List ℕ} (T : List ℕ) (c n j : ℕ) (item : Item) (f g : Forest) → record_size * c ≤ length T → n ≡ 1 + size f
    → T' ≡ completed T c j (node item f nil) → completed T' (c + n) (j + n) g ≡ completed T c j (node item f g)
unfolding stored size
completed-turn T c n j item f g h en e =
    let B = records_of j (node item f nil) in
    let e1 : record_size * (c + n) ≡ record_size * c + record_size * (1 + size f + 0) = omega arith in
    let e2 : record_size * (1 + size f + size g) ≡ record_size * (1 + size f + 0) + record_size * size g = omega arith in
    rw (e, e1, en, records-split j item f g, e2)
    (glue (take (record_size * c) T) B (records_of (j + (1 + size f)) g) (drop (record_size * c) T) (record_size * c)
    (record_size * (1 + size f + 0)) (record_size * size g)
    (length-take-le (record_size * c) T h) (length-records j (node item f nil)))

-- a node's own record, in front of what it contains
pub completed-node : {T' R : List ℕ} (T : List ℕ) (i : ℕ) (item : Item) (e : ℕ) (f : Forest)
    → record_size ≤ length T → R ≡ completed T 1 (i + 1) f
    → e ≡ i + 1 + size f
    → Wrote (record_of item e) R T' → T' ≡ stored i (node item f nil) T
unfolding stored size
completed-node {T'} {R} T i item e f h r ee w =
    let e2 : record_size * (1 + size f + 0) ≡ record_size + record_size * size f = omega arith in
    let d : drop record_size R ≡ records_of (i + 1) f ++ drop (record_size * size f) (drop record_size T)
    = rw r (drop_at (take record_size T) (records_of (i + 1) f ++ drop (record_size * size f) (drop record_size T)) record_size
    (length-take-le record_size T h)) in
    w.left ∙ rw (length-record item e, d, ee, ← node-records i item f, e2, drop-drop (record_size * size f) record_size T, append_assoc)
