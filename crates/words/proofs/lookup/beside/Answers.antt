-- `words::lookup::beside` meets its contract: the row is the word's, or the next one may be.
use Rattle.std.proofs.Common.{sym, ◌∙◌}
use Rattle.words.proofs.Beside.{beside-here, beside-next}
use Rattle.words.proofs.lookup.beside.Goals as goal

pub returns-then-eq : goal.returns-then-eq
returns-then-eq g c =
    let a = c.args in
    sym (c.loop-name.invariant
    ∙ beside-here a.word.now a.table.now _ c.loop-name-test.true c.loop-name-item.is c.eq.ensures c.if-eq.true)

pub loop-name-preserved : goal.loop-name-preserved
loop-name-preserved g c =
    let a = c.args in
    c.loop-name.invariant
    ∙ beside-next a.word.now a.table.now _ c.loop-name-test.true c.loop-name-item.is c.eq.ensures c.if-eq.false
