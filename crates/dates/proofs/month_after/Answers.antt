-- `dates::month_after` meets its contract, by whether the month is the last.
use borrow.Author.Tests.{eq-eqb, ne_eqb}
use Rattle.dates.specs.Dates.{month_after}
use Rattle.dates.proofs.month_after.Goals as goal

pub returns-then-date-eq12 : goal.returns-then-date-eq12
unfolding month_after
returns-then-date-eq12 c = rw (eq-eqb _ 12 c.if-date-eq12.true)

pub returns : goal.returns
unfolding month_after
returns c = rw (ne_eqb _ 12 c.if-date-eq12.false)
