-- `telling::refusals::form_of` meets its contract: the table has the form of each number, and none past the last.
use borrow.Author.Rules.{rules}
use Rattle.telling.proofs.Tables.{form-at, form-none}
use Rattle.telling.proofs.refusals.form_of.Goals as goal

pub returns-then-place-lt29 : goal.returns-then-place-lt29
returns-then-place-lt29 c = search (rules, form-at)

pub returns-else-place-lt29 : goal.returns-else-place-lt29
returns-else-place-lt29 c = form-none _ c.if-place-lt29.false
