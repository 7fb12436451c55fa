-- `wire::copy_bytes` meets its contract. After i turns the first i bytes are written.
use mathlib.Core.Path.{◌≡◌}
use lib.ListN.{length, take}
use Rattle.wire.specs.Wrote.{Wrote}
use Rattle.wire.proofs.copy_bytes.Given as goal

abbrev pub invariant-loop-i : goal.invariant-loop-i
invariant-loop-i l = Wrote (take l.i l.bytes) l.initial.out l.out × (length l.out ≡ length l.initial.out)
