use mathlib.Core.Path.{◌∙◌}
use Rattle.utf8.proofs.Steps.{entry-within, turn}
use Rattle.utf8.proofs.advance.Goals as goal

pub loop-byte-preserved : goal.loop-byte-preserved
loop-byte-preserved c =
    let l = c.loop-byte in
    let (row, same) = turn _ _ c.requires.0 c.requires.1 l.state c.args.s.now l.byte-index l.invariant.0
    (c.type_inv.s l.byte-index).fits c.loop-byte-test.true in
    (row, λ rest. same rest ∙ l.invariant.1 rest)

-- The entry of this turn stands in the table.
pub bounds-next-state : goal.bounds-next-state
bounds-next-state c =
    let l = c.loop-byte in
    entry-within _ _ c.requires.0 c.requires.1 l.state _ l.invariant.0 (c.type_inv.s l.byte-index).fits
