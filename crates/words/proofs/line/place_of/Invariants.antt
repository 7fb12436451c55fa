-- `words::line::place_of` meets its contract. The invariant: the place is `n` more than that among the words from `at` on.
use mathlib.Core.Path.{◌≡◌}
use Prim.Native.Nat.{◌≤◌, ◌-◌, ◌+◌}
use lib.ListN.{length, drop}
use Rattle.words.specs.Tables.{words_in, place_in}
use Rattle.words.proofs.line.place_of.Given as goal

abbrev pub invariant-loop-at : goal.invariant-loop-at
invariant-loop-at l =
    (l.at ≤ length l.names + 1) × (l.n ≤ l.at) × (place_in (words_in l.names) l.name ≡ l.n + place_in (words_in (drop l.at l.names)) l.name)

abbrev pub decreases-loop-at : goal.decreases-loop-at
decreases-loop-at l = length l.names + 1 - l.at
