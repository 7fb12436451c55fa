use mathlib.Core.Path.{refl}
use native.Mathlib.Omega.{arith}
use Rattle.outcomes.proofs.Room.{told-stays, full-seen}
use Rattle.outcomes.proofs.tried.decode_tried.Goals as goal

pub returns : goal.returns
returns c =
    told-stays c.capacity_of-room.result refl refl (omega (arith, c.if-min-room.false, c.min.ensures, c.records.ensures))
    (rw c.depth.ensures at (full-seen c.answer.ensures c.is_full.ensures c.if-is_full.false))
    c.decode_told-2.ensures
