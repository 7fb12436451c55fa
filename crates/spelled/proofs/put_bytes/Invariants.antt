-- `spelled::put_bytes` meets its contract. The invariant: what was put so far fits.
use Rattle.spelled.specs.Put.{Put}
use Rattle.spelled.proofs.put_bytes.Given as goal

abbrev pub invariant-loop-part : goal.invariant-loop-part
invariant-loop-part l = Put l.done l.initial.out l.out
