-- The table while arrays are open: an open array's record holds, in place of its end, the link to the open array below it.
use mathlib.Core.Path.{◌≡◌, ap, ◌∙◌}
use Prim.Native.Nat.{ℕ, ◌+◌, ◌*◌, ◌^◌, ◌<◌}
use mathlib.Core.List.{List, [], ◌∷◌, ◌++◌, append_assoc, append-nil}
use native.Mathlib.Omega.{arith}
use lib.ListN.{length, drop, length-append}
use lib.Seq.{drop_at}
use Rattle.wire.specs.Number.{number, bytes}
use Rattle.wire.specs.Wrote.{Wrote}
use Rattle.wire.proofs.Numbers.{read-written}
use Rattle.node.specs.Forest.{Forest, nil, node, size, snoc}
use Rattle.node.specs.Records.{record_size, record_of, records_of, field_at, end_at}
use Rattle.node.specs.declared.record.Item.{Item}
use Rattle.arguments.specs.Arguments.{Open, waits}
use Rattle.node.proofs.Forests.{records-snoc}
use Rattle.node.proofs.Recorded.{length-record, length-records}

-- ---- frames in the table

-- how many records a frame and those below it hold, with the open arrays' own
abbrev pub held : Forest → List Open → ℕ
held frame [] = size frame
held frame (waits f item ∷ below) = held f below + 1 + size frame

-- the link to the array that is open last: one more than its place, or 0 for none
abbrev pub link : List Open → ℕ
link [] = 0
link (waits f item ∷ below) = held f below + 1

-- the bytes of a frame and of those below it, the first record with index i
abbrev pub layout : ℕ → Forest → List Open → List ℕ
layout i frame [] = records_of i frame
layout i frame (waits f item ∷ below) = layout i f below ++ (record_of item (link below) ++ records_of (i + held f below + 1) frame)

-- each record held is one record long
pub length-layout : (i : ℕ) (frame : Forest) (below : List Open) → length (layout i frame below) ≡ record_size * held frame below
length-layout i frame [] = length-records i frame
length-layout i frame (waits f item ∷ below) =
    simp (length-append, length-record) (omega (arith, length-layout i f below, length-records (i + held f below + 1) frame))

layout-snoc : (i : ℕ) (frame : Forest) (below : List Open) (item : Item) (g : Forest)
    → layout i (snoc frame item g) below ≡ layout i frame below ++ records_of (i + held frame below) (node item g nil)
layout-snoc i frame [] item g = records-snoc i frame item g
layout-snoc i frame (waits f item' ∷ below) item g =
    let e : i + (held f below + 1 + size frame) ≡ i + held f below + 1 + size frame = omega arith in
    rw (records-snoc (i + held f below + 1) frame item g, e, append_assoc, append_assoc)

-- one argument more is one record more, which ends after itself
pub layout-leaf : (i : ℕ) (frame : Forest) (below : List Open) (item : Item)
    → layout i (snoc frame item nil) below ≡ layout i frame below ++ record_of item (i + held frame below + 1)
unfolding records_of size
layout-leaf i frame below item =
    let e : i + held frame below + 1 + 0 ≡ i + held frame below + 1 = omega arith in
    layout-snoc i frame below item nil ∙ rw (e, append-nil (record_of item (i + held frame below + 1)))

-- an array that opens is one record more, which holds the link
pub layout-open : (i : ℕ) (frame : Forest) (item : Item) (below : List Open)
    → layout i nil (waits frame item ∷ below) ≡ layout i frame below ++ record_of item (link below)
unfolding records_of
layout-open i frame item below = rw (append-nil (record_of item (link below)))

-- ---- an array's record, apart: what stands before its end, and after it

-- what stands before the end of an open array
abbrev pub front : ℕ → Forest → Item → List Open → List ℕ
front i f item below = layout i f below ++ (item.kind ∷ 0 ∷ 0 ∷ 0 ∷ [])

-- what stands after it
abbrev pub behind : ℕ → Forest → Forest → Item → List Open → List ℕ
behind i frame f item below = (bytes 4 item.a ++ (bytes 4 item.b ++ bytes 4 item.start)) ++ records_of (i + held f below + 1) frame

-- the end of an open array stands 4 bytes into its record
pub length_front : (i : ℕ) (f : Forest) (item : Item) (below : List Open) → length (front i f item below) ≡ record_size * held f below + 4
length_front i f item below =
    length-append (layout i f below) (item.kind ∷ 0 ∷ 0 ∷ 0 ∷ []) ∙ ap (λ (n : ℕ). n + 4) (length-layout i f below)

apart : (item : Item) (end : ℕ) (l r : List ℕ)
    → l ++ (record_of item end ++ r)
    ≡ (l ++ (item.kind ∷ 0 ∷ 0 ∷ 0 ∷ []))
    ++ (bytes 4 end ++ ((bytes 4 item.a ++ (bytes 4 item.b ++ bytes 4 item.start)) ++ r))
unfolding record_of
apart item end l r = simp append_assoc

-- an array that is open holds the link
pub while-open : (i : ℕ) (frame f : Forest) (item : Item) (below : List Open)
    → layout i frame (waits f item ∷ below) ≡ front i f item below ++ (bytes 4 (link below) ++ behind i frame f item below)
while-open i frame f item below = apart item (link below) (layout i f below) (records_of (i + held f below + 1) frame)

-- an array that is closed holds its end, and is else the same
pub once_closed : (i : ℕ) (frame f : Forest) (item : Item) (below : List Open)
    → layout i (snoc f item frame) below
    ≡ front i f item below ++ (bytes 4 (i + held frame (waits f item ∷ below)) ++ behind i frame f item below)
unfolding records_of
once_closed i frame f item below =
    let e : i + held f below + 1 + size frame ≡ i + (held f below + 1 + size frame) = omega arith in
    let r = records_of (i + held f below + 1) frame in
    layout-snoc i f below item frame
    ∙ rw (append-nil r, e) (apart item (i + held frame (waits f item ∷ below)) (layout i f below) r)

-- in the end of the array that is open last stands the link to the one below it
pub link-there : (i : ℕ) (frame f : Forest) (item : Item) (below : List Open) {o₀ o : List ℕ}
    → Wrote (layout i frame (waits f item ∷ below)) o₀ o
    → link below < 256 ^ 4
    → end_at o (held f below) ≡ link below
unfolding field_at
link-there i frame f item below {o₀} {o} w h =
    let D = drop (length (layout i frame (waits f item ∷ below))) o₀ in
    let more = behind i frame f item below ++ D in
    let eo : o ≡ front i f item below ++ (bytes 4 (link below) ++ more) = w.left
    ∙ ap (λ (l : List ℕ). l ++ D) (while-open i frame f item below)
    ∙ simp append_assoc in
    ap (λ (l : List ℕ). number 4 (drop (record_size * held f below + 4) l)) eo
    ∙ ap (number 4) (drop_at (front i f item below) (bytes 4 (link below) ++ more) (record_size * held f below + 4)
    (length_front i f item below))
    ∙ read-written 4 (link below) more h
