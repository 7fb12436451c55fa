-- `dates::days_in` meets its contract, by what the tests on the year and the month say.
use mathlib.Core.Path.{sym, ◌∙◌}
use borrow.Author.Tests.{eq-eqb, ne_eqb}
use Rattle.dates.specs.Dates.{days_in}
use Rattle.dates.proofs.days_in.Goals as goal

pub returns-then-is_leap : goal.returns-then-is_leap
unfolding days_in
returns-then-is_leap c = rw (eq-eqb _ 2 c.if-month-eq2.true, sym c.is_leap.ensures ∙ c.if-is_leap.true)

pub returns-then-month-eq2 : goal.returns-then-month-eq2
unfolding days_in
returns-then-month-eq2 c = rw (eq-eqb _ 2 c.if-month-eq2.true, sym c.is_leap.ensures ∙ c.if-is_leap.false)

pub returns-then-has_thirty : goal.returns-then-has_thirty
unfolding days_in
returns-then-has_thirty c = rw (ne_eqb _ 2 c.if-month-eq2.false, sym c.has_thirty.ensures ∙ c.if-has_thirty.true)

pub returns : goal.returns
unfolding days_in
returns c = rw (ne_eqb _ 2 c.if-month-eq2.false, sym c.has_thirty.ensures ∙ c.if-has_thirty.false)
