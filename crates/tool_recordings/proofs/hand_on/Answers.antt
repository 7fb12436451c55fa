-- `tool_recordings::hand_on` meets its contract: by the aim.
use mathlib.Core.Path.{refl}
use Rattle.tool_recordings.specs.Loops.{written, compared_on}
use Rattle.tool_recordings.proofs.hand_on.Goals as goal

pub returns-then-add : goal.returns-then-add
returns-then-add c = written c.in-Write.is refl

pub returns-in-Compare : goal.returns-in-Compare
returns-in-Compare c = compared_on c.in-Compare.is c.compare.ensures
