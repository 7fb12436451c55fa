use Rattle.shifts.proofs.Records.{record-moved}
use Rattle.shifts.proofs.shift_record.Goals as goal

pub returns : goal.returns
returns c =
    record-moved c.args.by c.args.table.now c.requires c.is_timed.ensures c.if-not-is_timed.false
    c.be_u64.ensures c.shift-tag.ensures c.put_u64.ensures
