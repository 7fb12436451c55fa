-- Describes code, and no part of the document: what the automaton has read, by the states before and after it.
use Rattle.std.specs.Prelude.{◌≡◌, List, ◌++◌, ℕ, ◌/◌}
use Rattle.utf8.specs.Derive.{run}
use Rattle.utf8.specs.Automaton.{wants, StateRow}

-- some octets lead from the state n to the state r: it answers on whatever follows as n does on all
abbrev pub Reads : ℕ → List ℕ → ℕ → Type 0
Reads n s r = StateRow r × ((rest : List ℕ) → run (wants (r / 14)) rest ≡ run (wants (n / 14)) (s ++ rest))
