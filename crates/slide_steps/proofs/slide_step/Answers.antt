-- `slide_steps::slide_step` meets its contract: 1, then 12, then the frames.
use lib.Seq.{length-take-le}
use Rattle.slide_steps.proofs.Frames.{step-slides}
use Rattle.slide_steps.proofs.slide_step.Goals as goal

pub returns : goal.returns
returns c =
    step-slides c.slide_frames.ensures c.if-bytes-gt-LONGEST.false (length-take-le _ c.args.table.now c.if-table-lt-TABLE_SIZE.false)
    c.if-table-lt-TABLE_SIZE.false
