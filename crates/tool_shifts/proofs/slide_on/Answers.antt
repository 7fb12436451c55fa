-- `tool_shifts::slide_on` meets its contract: a read, a turn, and where the walk stands then.
use mathlib.Core.Path.{subst⁻¹}
use Prim.Native.Nat.{◌+◌}
use native.Mathlib.Omega.{arith}
use Rattle.tool_recordings.specs.CodeCame.{LowCame}
use Rattle.tool_recordings.proofs.Loops.{low-at-all, read-on}
use Rattle.tool_shifts.proofs.Slides.{came-low, slides-to, slide-or-fails}
use Rattle.tool_shifts.proofs.slide_on.Goals as goal

pub unless_shorter-requires : goal.unless_shorter-requires
unless_shorter-requires c =
    let read = read-on c.read_on.ensures c.in-Ok.is in
    let from = c.args.from in
    low-at-all (from.at + 1) c.stand_after.result
    (subst⁻¹ (LowCame (from.at + 1)) c.stand_after.ensures.came
    (came-low from c.slide_turn-turn.ensures (omega (arith, c.read_on.auto.buf, c.requires.0.bytes)) read.counts.0
    (omega (arith, c.if-from-count.false, c.requires.1.near))))

pub returns : goal.returns
returns c =
    let read = read-on c.read_on.ensures c.in-Ok.is in
    slide-or-fails c.unless_shorter.ensures
    (slides-to read (omega (arith, c.read_on.auto.buf, c.requires.0.bytes)) read.counts.0
    (omega (arith, c.if-from-count.false, c.requires.1.near)) c.slide_turn-turn.ensures
    c.front.ensures c.slid_by.ensures c.stand_after.ensures)
