use Prim.Native.Nat.{ℕ, ◌<◌}
use native.Mathlib.Omega.{arith}
use lib.ListN.{get_or}
use Rattle.wire.proofs.Copies.{copied, copied-last}
use Rattle.wire.proofs.copy_fours.Goals as goal

pub returns : goal.returns
returns c =
    let s = c.args.bytes.now in
    let small : (j : ℕ) → get_or s j 0 < 256 = λ j. omega (arith, c.type_inv.bytes j) in
    copied-last s small 4 4 _ (omega arith) (omega arith) (omega arith)
    (copied s small 4 0 (omega arith) c.be_u32.ensures c.put_u32.ensures) c.be_u32-2.ensures
    c.put_u32-2.ensures
