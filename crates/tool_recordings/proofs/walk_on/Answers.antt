-- `tool_recordings::walk_on` meets its contract: by the case of the step.
use native.Mathlib.Omega.{arith}
use Rattle.tool_recordings.proofs.Loops.{turn, turn-or-fails, read-on}
use Rattle.tool_recordings.proofs.walk_on.Goals as goal

pub returns-in-On : goal.returns-in-On
returns-in-On c =
    let read = read-on c.read_on.ensures c.in-Ok.is in
    turn (omega (arith, read.counts.0, c.read_on.auto.buf, c.requires.0.bytes)) read c.walk_step.ensures c.in-On.is
    c.front.ensures c.hand_on.ensures

pub returns-in-Ended : goal.returns-in-Ended
returns-in-Ended c =
    let read = read-on c.read_on.ensures c.in-Ok.is in
    turn-or-fails c.unless_shorter.ensures
    (turn (omega (arith, read.counts.0, c.read_on.auto.buf, c.requires.0.bytes)) read c.walk_step.ensures c.in-Ended.is
    c.front-in-Ended.ensures c.hand_on-in-Ended.ensures)
