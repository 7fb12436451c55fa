-- `telling::form::taken_by` meets its contract, by its keys.
use borrow.Author.Rules.{rules}
use borrow.Author.Tests.{ne_eqb}
use Rattle.telling.specs.Forms.{taken_by}
use Rattle.telling.proofs.form.taken_by.Goals as goal

pub returns-in-37 : goal.returns-in-37
unfolding taken_by
returns-in-37 c = (rw c.in-37.is, search rules)

pub returns-in-36 : goal.returns-in-36
unfolding taken_by
returns-in-36 c = (rw c.in-36.is, search rules)

pub returns-in_default : goal.returns-in_default
unfolding taken_by
returns-in_default c = let r = c.in_default.in_default-own.rest in (rw (ne_eqb _ 37 r.0.1, ne_eqb _ 36 r.1), search rules)
