-- `utf8::walk` meets its contract. The loop's invariant: the state answers on the bytes that are left as the start does on all.
-- The measure is how many are left.
use mathlib.Core.Path.{◌≡◌}
use Prim.Native.Nat.{◌/◌}
use lib.ListN.{length}
use Rattle.utf8.specs.Derive.{run, utf8}
use Rattle.utf8.specs.Automaton.{wants, StateRow}
use Rattle.utf8.proofs.walk.Given as goal

abbrev pub invariant-loop-block : goal.invariant-loop-block
invariant-loop-block l = StateRow l.state × (run (wants (l.state / 14)) l.left ≡ utf8 l.s)

abbrev pub decreases-loop-block : goal.decreases-loop-block
decreases-loop-block l = length l.left
