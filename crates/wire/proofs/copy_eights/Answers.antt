use Prim.Native.Nat.{ℕ, ◌+◌, ◌<◌}
use native.Mathlib.Omega.{arith}
use borrow.Author.Rules.{rules}
use lib.ListN.{get_or}
use Rattle.wire.proofs.Copies.{copied_more, copied-last}
use Rattle.wire.proofs.copy_eights.Goals as goal
use Rattle.wire.proofs.copy_eights.Goals.{else-loop-i-test, then-loop-i-test+else-last-i-gt8}

pub loop-i-preserved : goal.loop-i-preserved
loop-i-preserved c =
    let s = c.args.bytes.now in
    let small : (j : ℕ) → get_or s j 0 < 256 = λ j. omega (arith, c.type_inv.bytes j) in
    let l = c.loop-i in (
      omega arith,
      copied_more s small 8 l.i (omega arith) l.invariant.1 c.be_u64.ensures c.put_u64.ensures,
      search rules,
      omega arith,
      omega arith,
    )

pub returns : goal.returns
returns c =
    let s = c.args.bytes.now in
    let small : (j : ℕ) → get_or s j 0 < 256 = λ j. omega (arith, c.type_inv.bytes j) in
    let l = c.loop-i in
    elim c.loop-i-test.branch [
      | else-loop-i-test w ↦
          copied-last s small 8 l.i _ l.invariant.3 (omega arith) l.invariant.0 (rw w.out-is l.invariant.1) c.be_u64-2.ensures c.put_u64-2.ensures
      | then-loop-i-test+else-last-i-gt8 w ↦
          copied-last s small 8 (l.i + 8) _ l.invariant.3 (omega arith) (omega arith)
          (rw w.out-is (copied_more s small 8 l.i (omega arith) l.invariant.1 w.be_u64.ensures w.put_u64.ensures))
          c.be_u64-2.ensures c.put_u64-2.ensures
    ]
