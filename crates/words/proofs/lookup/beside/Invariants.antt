-- The word is not among the rows that were seen.
use Rattle.std.proofs.Common.{◌≡◌, drop}
use Rattle.words.specs.Tables.{beside}
use Rattle.words.proofs.lookup.beside.Given as goal

abbrev pub invariant-loop-name : goal.invariant-loop-name
invariant-loop-name g l = beside l.word l.table ≡ beside l.word (drop l.name-index l.table)
