-- A forest with one node more at its end: how many nodes it has, how deep it is, and which records.
use mathlib.Core.Path.{◌≡◌}
use mathlib.Core.List.{◌++◌, append_assoc}
use Prim.Native.Nat.{ℕ, ◌+◌, max}
use native.Mathlib.Omega.{arith}
use Rattle.node.specs.Forest.{Forest, nil, node, size, level, depth, snoc}
use Rattle.node.specs.Records.{records_of}
use Rattle.node.specs.declared.record.Item.{Item}

-- a forest with one node more has that node's size more
pub size-snoc : (f : Forest) (item : Item) (g : Forest) → size (snoc f item g) ≡ size f + 1 + size g
unfolding snoc size
size-snoc nil item g = omega arith
size-snoc (node item' f' rest) item g = omega (arith, size-snoc rest item g)

-- it is as deep as the deeper of the two
pub depth-snoc : (f : Forest) (item : Item) (g : Forest) → depth (snoc f item g) ≡ max (depth f) (level item.kind (depth g))
unfolding snoc depth
depth-snoc nil item g = omega arith
depth-snoc (node item' f' rest) item g = omega (arith, depth-snoc rest item g)

-- its records are that node's after its own
pub records-snoc : (i : ℕ) (f : Forest) (item : Item) (g : Forest)
    → records_of i (snoc f item g) ≡ records_of i f ++ records_of (i + size f) (node item g nil)
unfolding records_of snoc size
records-snoc i nil item g = let e : i + 0 ≡ i = omega arith in rw e
records-snoc i (node item' f' rest) item g =
    let e : i + (1 + size f' + size rest) ≡ i + 1 + size f' + size rest = omega arith in
    rw (records-snoc (i + 1 + size f') rest item g, e, append_assoc, append_assoc)
