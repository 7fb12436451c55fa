-- `slide_walks::slide_turn` meets its contract: the step over the bytes that are there, and whether it is read on.
use Rattle.slide_walks.proofs.Turned.{turn-never, turned, reads_more, reads-no-more}
use Rattle.slide_walks.proofs.slide_turn.Goals as goal

pub returns-then-reads_on : goal.returns-then-reads_on
returns-then-reads_on c =
    let a = c.args in
    turned a.buf.now a.count a.by c.requires.0 c.requires.1 a.table.now c.requires.2 c.slide_step.ensures
    c.in-Ok.is _
    (reads_more _ _ c.reads_on.ensures c.if-reads_on.true)

pub returns-else-reads_on : goal.returns-else-reads_on
returns-else-reads_on c =
    let a = c.args in
    turned a.buf.now a.count a.by c.requires.0 c.requires.1 a.table.now c.requires.2 c.slide_step.ensures
    c.in-Ok.is _
    (reads-no-more _ _ c.reads_on.ensures c.if-reads_on.false)

pub returns-in-Err : goal.returns-in-Err
returns-in-Err c =
    let a = c.args in
    turn-never a.buf.now a.count a.by c.requires.0 c.requires.1 a.table.now c.requires.2 c.slide_step.ensures
    c.in-Err.is
