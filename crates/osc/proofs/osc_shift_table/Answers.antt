-- The tags that are moved are fewer than the records, whose count has 32 bits.
use native.Mathlib.Omega.{arith}
use Rattle.shifts.proofs.Demand.{tags-low}
use Rattle.osc.proofs.osc_shift_table.Goals as goal

pub overflow_cast-n : goal.overflow_cast-n
overflow_cast-n c =
    let a = c.args in
    let low = tags-low a.table.now a.count a.by c.if-count-ge4294967296.false c.shift_table.ensures c.in-Ok.is in
    record { fits = omega (arith, low) }
