-- `dates::date_of` meets its contract.
use native.Mathlib.Omega.{arith}
use Rattle.dates.proofs.Months.{begins, goes_further, found, days-least}
use Rattle.dates.proofs.date_of.Goals as goal

pub loop-left-init : goal.loop-left-init
loop-left-init c = begins c.args.day

pub returns-then-left-days : goal.returns-then-left-days
returns-then-left-days c =
    found _ _ _ c.loop-left.invariant (omega (arith, c.days_in-days.ensures))

pub loop-left-smaller : goal.loop-left-smaller
loop-left-smaller c =
    omega (arith, c.days_in-days.ensures, days-least c.loop-left.first.year c.loop-left.first.month)

pub loop-left-preserved : goal.loop-left-preserved
loop-left-preserved c =
    let e = c.days_in-days.ensures in
    rw (c.month_after-first.ensures, e) (goes_further _ _ _ c.loop-left.invariant (omega arith))
