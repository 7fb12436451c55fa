use Rattle.std.proofs.Common.{rules, arith}
use Rattle.shifts.proofs.Loop.{shifting-more, shifting-end, shifting-low}
use Rattle.shifts.proofs.shift_records.Goals as goal

pub loop-index-preserved : goal.loop-index-preserved
loop-index-preserved c =
    shifting-more c.args.by c.args.count c.args.table.now c.loop-index.invariant c.loop-index-test.true c.requires
    c.shift_record-moved.ensures.0 c.shift_record-moved.ensures.1

pub returns : goal.returns
returns c =
    shifting-end c.args.by c.args.count c.args.table.now c.loop-index.invariant (search rules)

pub overflow_add-moved : goal.overflow_add-moved
overflow_add-moved c =
    let a = c.args in
    let low = shifting-low a.by a.count a.table.now c.loop-index.invariant c.loop-index-test.true c.requires
    c.shift_record-moved.ensures.0 c.shift_record-moved.ensures.1 in
    record { fits = omega (arith, low, c.ranges.count) }
