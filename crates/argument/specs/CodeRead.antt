-- Describes code, and no part of the document: an argument that was read before, and not refused.
use Rattle.argument.specs.Results.{Arg}
use Rattle.std.specs.Prelude.{Err, Ok}

-- the argument was read
abbrev pub ArgRead : Arg → Type 0
ArgRead (Ok given) = Unit {0}
ArgRead (Err fault) = ⊥
