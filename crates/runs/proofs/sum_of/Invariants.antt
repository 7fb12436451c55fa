-- `runs::sum_of` meets its contract. The invariant: the bytes that are left make of the sum what all make of 0.
use Rattle.std.proofs.Common.{◌≡◌, ◌<◌, drop}
use Rattle.runs.specs.Sum.{sum_of}
use Rattle.runs.proofs.sum_of.Given as goal

abbrev pub invariant-loop-b : goal.invariant-loop-b
invariant-loop-b l = (l.sum < 4294967291) × (sum_of (drop l.b-index l.bytes) l.sum ≡ sum_of l.bytes 0)
