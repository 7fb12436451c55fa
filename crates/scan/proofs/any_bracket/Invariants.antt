-- `scan::any_bracket` meets its contract. The invariant: a bracket was met, or is among the tags that are left, where
-- there is one.
use mathlib.Core.Path.{◌≡◌}
use mathlib.Core.Bool.{◌||◌}
use lib.ListN.{drop}
use Rattle.scan.specs.CodeScans.{brackets}
use Rattle.scan.proofs.any_bracket.Given as goal

abbrev pub invariant-loop-tag : goal.invariant-loop-tag
invariant-loop-tag l = l.any || brackets (drop l.tag-index l.tags) ≡ brackets l.tags
