-- `telling::form::fill_in` meets its contract.
use mathlib.Core.Path.{◌∙◌}
use native.Mathlib.Omega.{arith}
use Rattle.telling.proofs.Told.{mark-told, all_told}
use Rattle.telling.proofs.form.fill_in.Goals as goal

pub loop-mark-preserved : goal.loop-mark-preserved
loop-mark-preserved c =
    let a = c.args in
    let v = c.loop-mark.invariant in
    let w = c.put_piece-at.ensures in (
      omega arith,
      omega arith,
      omega (arith, w.room, w.within),
      w.room ∙ v.3,
      mark-told a.text.now a.numbers.now a.form.now c.loop-mark.k c.loop-mark.mark-index (omega arith)
          c.number_at.ensures c.taken_by-k.ensures.0 w v.4,
    )

pub returns : goal.returns
returns c =
    let a = c.args in
    let v = c.loop-mark.invariant in
    all_told a.text.now a.numbers.now a.form.now c.loop-mark.out c.loop-mark.at c.loop-mark.k c.loop-mark.mark-index (omega arith) v.2
    v.4
