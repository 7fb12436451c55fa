-- `text::any_stop` meets its contract. The invariant: a byte that stops was met where fewer than all those looked at are passed.
use mathlib.Core.Path.{◌≡◌}
use lib.Dec.{ltb}
use Rattle.text.specs.CodePlain.{stops_at, count_to}
use denote.Param.{number}
use Rattle.text.specs.contracts.any_stop.{HIGH-type}
use Rattle.text.proofs.any_stop.Given as goal

abbrev pub invariant-loop-byte : goal.invariant-loop-byte
invariant-loop-byte g l = l.any ≡ ltb (count_to (stops_at (HIGH-type (number g.row.HIGH))) l.block) l.byte-index
