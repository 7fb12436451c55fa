use Rattle.node.proofs.Recorded.{record-written}
use Rattle.node.proofs.record.put_record.Goals as goal

pub returns : goal.returns
returns c =
    record-written c.args.item _
    c.put_kind.ensures
    c.put_u32.ensures
    c.put_u32-2.ensures
    c.put_u32-3.ensures
    c.put_u32-4.ensures
