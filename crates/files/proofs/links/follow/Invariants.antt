-- `files::links::follow` meets its contract. The invariant: a name stands at the front of the buffer, whose length stays.
use mathlib.Core.Path.{◌≡◌}
use Prim.Native.Nat.{◌≤◌}
use lib.ListN.{length}
use Rattle.io.specs.Counts.{IsPrefixLen}
use Rattle.files.specs.Beside.{longest_name}
use Rattle.files.proofs.links.follow.Given as goal

abbrev pub invariant-loop : goal.invariant-loop
invariant-loop l = IsPrefixLen l.n l.name × (l.n ≤ longest_name) × (length l.name ≡ length l.initial.name)
