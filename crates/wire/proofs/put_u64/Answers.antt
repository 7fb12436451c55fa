use Rattle.wire.proofs.Numbers.{length-bytes, eight-bytes}
use Rattle.wire.proofs.Writers.{wrote-lent}
use Rattle.wire.proofs.put_u64.Goals as goal

pub returns : goal.returns
returns c =
    let x = c.args.x in
    rw (← eight-bytes x) (wrote-lent 4 c.put_u32.ensures (length-bytes 4 _) c.put_u32-2.ensures)
