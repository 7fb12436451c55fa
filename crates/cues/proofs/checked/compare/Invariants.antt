-- `cues::checked::compare` meets its contract. The invariant: the first k records are the same, and the answer is that of what is left.
use Rattle.cues.proofs.Checks.{Compares}
use Rattle.cues.proofs.checked.compare.Given as goal

abbrev pub invariant-loop-k : goal.invariant-loop-k
invariant-loop-k l = Compares l.fresh l.given l.k
