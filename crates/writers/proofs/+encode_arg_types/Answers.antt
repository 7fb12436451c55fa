-- A turn of the loop writes the tags of one record: its kind, and behind an array's what it contains and a closing bracket.
use mathlib.Core.Path.{◌≡◌}
use mathlib.Core.List.{List}
use Prim.Native.Nat.{ℕ, ◌+◌, ◌<◌, ◌≤◌}
use native.Mathlib.Omega.{arith}
use lib.ListN.{length, length-set}
use Rattle.wire.specs.Limits.{longest}
use Rattle.wire.proofs.Writers.{filled-length}
use Rattle.node.specs.Records.{end_at}
use Rattle.writers.specs.Osc.{write_tags}
use Rattle.writers.specs.CodeWriters.{Any}
use Rattle.writers.proofs.Classed.{tags-none}
use Rattle.writers.proofs.Rows.{Going, ended, ends, tag-room, tags-inside, close-room, tags-array-gone, tags-leaf-gone}
use Rattle.writers.proofs.Turns.{given, row-advances}
use Rattle.writers.proofs.+encode_arg_types.Goals as goal

-- there is room for a record's tag, and the record ends in the row
tag-fits : {t : List ℕ} {lo hi : ℕ} {o₀ o : List ℕ} {at k end : ℕ} → Going Any write_tags write_tags t lo hi o₀ o at k → at < hi
    → end ≡ end_at t at → (k + 1 ≤ length o) × (k + 1 ≤ longest) × (at < end) × (end ≤ hi) × (lo ≤ at)
tag-fits w h e =
    let room = tag-room w h in
    let end = ends w h e in
    (omega (arith, filled-length w.filled), room.1, end.0, end.1, w.passed)

pub bounds-out-written : goal.bounds-out-written
bounds-out-written t c =
    let s = given c.loop-at.invariant.0 c.loop-at.invariant.1 c.loop-at.invariant.2 c.in-Some.ensures.steps in
    omega (arith, tag-fits s.going s.within s.end-is)

pub slice_bounds-encode_arg_types-count : goal.slice_bounds-encode_arg_types-count
slice_bounds-encode_arg_types-count t c =
    let s = given c.loop-at.invariant.0 c.loop-at.invariant.1 c.loop-at.invariant.2 c.in-Some.ensures.steps in
    simp length-set (omega (arith, tag-fits s.going s.within s.end-is))

pub slice_bounds-encode_arg_types-start : goal.slice_bounds-encode_arg_types-start
slice_bounds-encode_arg_types-start t c =
    let s = given c.loop-at.invariant.0 c.loop-at.invariant.1 c.loop-at.invariant.2 c.in-Some.ensures.steps in
    simp length-set (omega (arith, tag-fits s.going s.within s.end-is))

pub encode_arg_types-written-requires : goal.encode_arg_types-written-requires
encode_arg_types-written-requires t c =
    let s = given c.loop-at.invariant.0 c.loop-at.invariant.1 c.loop-at.invariant.2 c.in-Some.ensures.steps in (
      omega (arith, tag-fits s.going s.within s.end-is),
      tags-inside s.going s.within c.kind_at-kind.ensures s.end-is c.if-kind-eq-ARRAY.true,
    )

pub overflow_add-written-then-kind-eq-ARRAY : goal.overflow_add-written-then-kind-eq-ARRAY
overflow_add-written-then-kind-eq-ARRAY t c =
    let s = given c.loop-at.invariant.0 c.loop-at.invariant.1 c.loop-at.invariant.2 c.in-Some.ensures.steps in
    omega (
      arith,
      close-room s.going s.within c.kind_at-kind.ensures s.end-is c.if-kind-eq-ARRAY.true
          c.encode_arg_types-written.ensures,
    )

pub bounds-out-written-then-kind-eq-ARRAY : goal.bounds-out-written-then-kind-eq-ARRAY
bounds-out-written-then-kind-eq-ARRAY t c =
    let s = given c.loop-at.invariant.0 c.loop-at.invariant.1 c.loop-at.invariant.2 c.in-Some.ensures.steps in
    omega (
      arith,
      close-room s.going s.within c.kind_at-kind.ensures s.end-is c.if-kind-eq-ARRAY.true
          c.encode_arg_types-written.ensures,
    )

pub overflow_add-written-then-kind-eq-ARRAY-2 : goal.overflow_add-written-then-kind-eq-ARRAY-2
overflow_add-written-then-kind-eq-ARRAY-2 t c =
    let s = given c.loop-at.invariant.0 c.loop-at.invariant.1 c.loop-at.invariant.2 c.in-Some.ensures.steps in
    omega (
      arith,
      close-room s.going s.within c.kind_at-kind.ensures s.end-is c.if-kind-eq-ARRAY.true
          c.encode_arg_types-written.ensures,
    )

pub loop-at-preserved-then-kind-eq-ARRAY : goal.loop-at-preserved-then-kind-eq-ARRAY
loop-at-preserved-then-kind-eq-ARRAY t c =
    let s = given c.loop-at.invariant.0 c.loop-at.invariant.1 c.loop-at.invariant.2 c.in-Some.ensures.steps in (
      s.same,
      s.still,
      rw s.behind (tags-array-gone s.going s.within c.kind_at-kind.ensures s.end-is c.if-kind-eq-ARRAY.true
          c.encode_arg_types-written.ensures),
    )

pub loop-at-preserved : goal.loop-at-preserved
loop-at-preserved t c =
    let s = given c.loop-at.invariant.0 c.loop-at.invariant.1 c.loop-at.invariant.2 c.in-Some.ensures.steps in
    (s.same, s.still, rw s.behind (tags-leaf-gone s.going s.within c.kind_at-kind.ensures s.end-is c.if-kind-eq-ARRAY.false))

pub returns : goal.returns
returns t c =
    ended c.loop-at.invariant.2 tags-none (omega (arith, c.in-None.ensures.steps.0, c.loop-at.invariant.1))

pub new-at-items-requires : goal.new-at-items-requires
new-at-items-requires t c = row-advances c.requires
