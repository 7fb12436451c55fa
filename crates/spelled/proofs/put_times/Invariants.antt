-- `spelled::put_times` meets its contract. The invariant: what was put so far fits.
use Rattle.spelled.specs.Put.{Put}
use Rattle.spelled.proofs.put_times.Given as goal

abbrev pub invariant-loop : goal.invariant-loop
invariant-loop l = Put l.at l.initial.out l.out
