use Rattle.std.proofs.Common.{◌≡◌, ℕ, ◌<◌, get_or, arith}
use Rattle.clock.specs.Shift.{shifted}
use Rattle.shifts.proofs.Sums.{call_back}
use Rattle.shifts.proofs.laws.and_back.Goals as goal

pub returns : goal.returns
returns c =
    let opposite : shifted c.args.by c.wrapping_neg.result ≡ 0 = omega (arith, c.wrapping_neg.ensures) in
    let bytes : (i : ℕ) → get_or c.args.table.now i 0 < 256 = λ i. (c.slice_known-1.given i).fits in
    call_back bytes opposite c.shift_table.ensures c.shift_table-2.ensures
