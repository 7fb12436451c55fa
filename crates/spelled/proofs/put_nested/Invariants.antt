-- `spelled::put_nested` meets its contract. The invariant: what was put so far fits.
use Rattle.spelled.specs.Put.{Put}
use Rattle.spelled.proofs.put_nested.Given as goal

abbrev pub invariant-loop-left : goal.invariant-loop-left
invariant-loop-left l = Put l.at l.initial.out l.out
