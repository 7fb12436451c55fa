-- `measure::skim_elements` meets its contract. The invariant: where the elements end is counted from `at`.
use Rattle.packet.specs.Packet.{used_by, read_elements}
use lib.ListN.{length}
use Prim.Native.Nat.{ℕ, ◌+◌}
use mathlib.Core.Path.{◌≡◌}
use Rattle.measure.proofs.skim_elements.Given as goal

abbrev pub invariant-loop-size : goal.invariant-loop-size
invariant-loop-size l =
    (l.at + length l.rest ≡ l.pos + length l.input) × ((base : ℕ) → l.pos + used_by (read_elements base l.input l.pos)
    ≡ l.at + used_by (read_elements base l.rest l.at))

abbrev pub decreases-loop-size : goal.decreases-loop-size
decreases-loop-size l = length l.rest
