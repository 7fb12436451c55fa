-- `spelled::listed::put_records` meets its contract. The invariant: what was put so far fits.
use Rattle.spelled.specs.Put.{Put}
use Rattle.spelled.proofs.listed.put_records.Given as goal

abbrev pub invariant-loop : goal.invariant-loop
invariant-loop l = Put l.at l.initial.out l.out
