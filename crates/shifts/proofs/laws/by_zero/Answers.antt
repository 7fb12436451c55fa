use Rattle.std.proofs.Common.{ℕ, ◌<◌, get_or}
use Rattle.shifts.proofs.Sums.{call-zero}
use Rattle.shifts.proofs.laws.by_zero.Goals as goal

pub returns : goal.returns
returns c =
    let bytes : (i : ℕ) → get_or c.args.table.now i 0 < 256 = λ i. (c.slice_known-1.given i).fits in
    call-zero bytes c.shift_table.ensures
