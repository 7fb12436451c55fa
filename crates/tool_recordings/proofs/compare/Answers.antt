-- `tool_recordings::compare` meets its contract: as many bytes as the records have fit into the buffer.
use Prim.Native.Nat.{◌≤◌}
use native.Mathlib.Omega.{arith}
use lib.ListN.{length}
use lib.Seq.{length-take-le}
use Rattle.tool_recordings.proofs.Loops.{compared-came, read-on}
use Rattle.tool_recordings.proofs.compare.Goals as goal

-- no more bytes were read than the records have
pub returns-in-Ok-check_part : goal.returns-in-Ok-check_part
returns-in-Ok-check_part c =
    let reads = read-on c.read_on.ensures c.in-Ok.is in
    let count = c.in-Ok.count in
    let few : count ≤ length c.args.fresh.now =
    omega (
      arith,
      reads.counts.0,
      c.read_on.auto.buf,
      length-take-le (length c.args.fresh.now) c.args.given.now c.requires.1,
    ) in
    compared-came count few c.check_part.ensures c.front.ensures c.in-Ok-check_part.is

pub returns-in-Err : goal.returns-in-Err
returns-in-Err c =
    let reads = read-on c.read_on.ensures c.in-Ok.is in
    let count = c.in-Ok.count in
    let few : count ≤ length c.args.fresh.now =
    omega (
      arith,
      reads.counts.0,
      c.read_on.auto.buf,
      length-take-le (length c.args.fresh.now) c.args.given.now c.requires.1,
    ) in
    compared-came count few c.check_part.ensures c.front.ensures c.in-Err.is
