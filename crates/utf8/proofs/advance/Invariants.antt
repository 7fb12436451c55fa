-- `utf8::advance` meets its contract. The loop's invariant: the state answers on the bytes that are left as the first one does on all.
use mathlib.Core.Path.{◌≡◌}
use mathlib.Core.List.{List, ◌++◌}
use Prim.Native.Nat.{ℕ, ◌/◌}
use lib.ListN.{drop}
use Rattle.utf8.specs.Derive.{run}
use Rattle.utf8.specs.Automaton.{wants, StateRow}
use Rattle.utf8.proofs.advance.Given as goal

abbrev pub invariant-loop-byte : goal.invariant-loop-byte
invariant-loop-byte l =
    StateRow l.state
    × ((rest : List ℕ) → run (wants (l.state / 14)) (drop l.byte-index l.s ++ rest) ≡ run (wants (l.from / 14)) (l.s ++ rest))
