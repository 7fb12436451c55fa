-- `runs::sum_of` meets its contract.
use Rattle.std.proofs.Common.{ℕ, List, sym, ◌∙◌, mod-lt, arith}
use Rattle.runs.proofs.Sums.{sum-next, sum-end}
use Rattle.runs.proofs.sum_of.Goals as goal

pub loop-b-preserved : goal.loop-b-preserved
loop-b-preserved c =
    let bytes : List ℕ = c.args.bytes.now in
    (mod-lt _ (omega arith), sum-next bytes c.loop-b.b-index c.loop-b.sum (omega arith) ∙ c.loop-b.invariant.1)

pub returns : goal.returns
returns c =
    let bytes : List ℕ = c.args.bytes.now in
    sym (sum-end bytes c.loop-b.b-index c.loop-b.sum (omega arith)) ∙ c.loop-b.invariant.1
